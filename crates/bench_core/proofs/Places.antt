-- What stands at the places of a list.
use Rattle.std.proofs.Common.{◌≡◌, ℕ, zero, suc, ◌<◌, List, [], ◌∷◌, ◌++◌, length, slice_get, Option, Some, None, get_or, nat_lt, refl, sym, ap, subst, ◌∙◌, true, arith}
use Rattle.std.specs.Option.{is_some, option_copied, IfSome}
use Rattle.std.specs.Prelude.{replicate}
use Rattle.std.proofs.lemmas.List.{get_or-replicate, length-replicate}
use Rattle.std.proofs.lemmas.Option.{slice_get-get_or, slice_get_past, slice_get_read}
use Rattle.std.proofs.lemmas.Bool.{ltb-false, ltb-true}
use denote.Bor.{Bor}

-- a place within the list has a value
pub copied_some : {X : Type 0} (o : Option (Bor X)) (xs : List X) (i : ℕ) → option_copied o ≡ slice_get xs i → i < length xs → is_some o ≡ true
copied_some None [] i is low = absurd (omega arith)
copied_some None (x ∷ xs) zero is low = absurd (cc)
copied_some None (x ∷ xs) (suc i) is low = copied_some None xs i is (omega arith)
copied_some (Some b) xs i is low = refl

-- equal lists end alike
pub last_is : {X : Type 0} (xs ys : List X) (x y : X) → xs ++ x ∷ [] ≡ ys ++ y ∷ [] → (xs ≡ ys) × (x ≡ y)
last_is [] [] x y e = (refl, cc)
last_is [] (z ∷ []) x y e = absurd (cc)
last_is [] (z ∷ w ∷ ys) x y e = absurd (cc)
last_is (z ∷ []) [] x y e = absurd (cc)
last_is (z ∷ w ∷ xs) [] x y e = absurd (cc)
last_is (a ∷ xs) (b ∷ ys) x y e =
    let first : a ≡ b = cc in
    let rest : xs ++ x ∷ [] ≡ ys ++ y ∷ [] = cc in
    let r = last_is xs ys x y rest in
    let same = r.0 in
    (cc (first, same), r.1)

-- all places have the same value
pub at_replicate : (n i a : ℕ) (xs : List ℕ) → xs ≡ replicate n a → i < n → slice_get xs i ≡ Some a
at_replicate n i a xs same low =
    ap (λ l. slice_get l i) same ∙ slice_get-get_or (replicate n a) i a (subst (λ m. i < m) (sym (length-replicate n a)) low)
    ∙ ap Some (get_or-replicate n i a a low)

-- what `get` gives
pub looked_up : {X : Type 0} (o : Option (Bor X)) (xs : List X) (i : ℕ) → is_some o ≡ nat_lt i (length xs) →
    IfSome o (λ x. x.now ≡ get_or xs i x.now) → option_copied o ≡ slice_get xs i
looked_up None xs i some at = sym (slice_get_past xs i (ltb-false i (length xs) (sym some)))
looked_up (Some b) xs i some at = sym (slice_get_read xs (length xs) i b.now refl (ltb-true i (length xs) (sym some)) at)
