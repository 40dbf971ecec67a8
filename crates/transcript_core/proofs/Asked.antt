-- Two lists of which one asks what the other has, place by place.
use Rattle.std.proofs.Common.{◌≡◌, ℕ, zero, suc, ◌+◌, ◌<◌, ◌≤◌, List, [], ◌∷◌, length, map, drop, get_or, Option, Some, None, option_map, slice_get, refl, sym, ap, ap₂, ◌∙◌, arith}
use Rattle.std.proofs.lemmas.List.{at_drop_more, at_drop_all, length-map}
use Rattle.std.proofs.lemmas.Option.{get_or_from_slice_get, slice_get-get_or}

module _ {X Y C : Type 0} (F : List X → List C) (f : X → C) (none : F [] ≡ []) (step : (x : X) (xs : List X) → F (x ∷ xs) ≡ f x ∷ F xs) (g : Y → C) where
  nothing : (i : ℕ) → slice_get {X = C} [] i ≡ None
  nothing zero = refl
  nothing (suc i) = refl

  asked_at : (xs : List X) (i : ℕ) → slice_get (F xs) i ≡ option_map f (slice_get xs i)
  asked_at [] i = ap (λ (cs : List C). slice_get cs i) none ∙ nothing i ∙ unasked i
    where
      unasked : (i : ℕ) → None ≡ option_map f (slice_get {X = X} [] i)
      unasked zero = refl
      unasked (suc i) = refl
  asked_at (x ∷ xs) zero = ap (λ (cs : List C). slice_get cs 0) (step x xs)
  asked_at (x ∷ xs) (suc i) = ap (λ (cs : List C). slice_get cs (suc i)) (step x xs) ∙ asked_at xs i

  had_at : (ys : List Y) (i : ℕ) → slice_get (map g ys) i ≡ option_map g (slice_get ys i)
  had_at [] zero = refl
  had_at [] (suc i) = refl
  had_at (y ∷ ys) zero = refl
  had_at (y ∷ ys) (suc i) = had_at ys i

  count : (xs : List X) → length (F xs) ≡ length xs
  count [] = ap length none
  count (x ∷ xs) = let rest = count xs in let one = ap length (step x xs) in omega (arith, rest, one)

  -- where all are asked, so is the one at a place
  pub asked_there : (xs : List X) (ys : List Y) (i : ℕ) (x : X) → i < length xs → x ≡ get_or xs i x → F xs ≡ map g ys →
      option_map g (slice_get ys i) ≡ Some (f x)
  asked_there xs ys i x within at same =
      sym (had_at ys i) ∙ ap (λ (cs : List C). slice_get cs i) (sym same) ∙ asked_at xs i ∙ ap (option_map f) (slice_get-get_or xs i x within)
      ∙ ap (λ (y : X). Some (f y)) (sym at)

  by_slot : (o : Option Y) (ys : List Y) (i : ℕ) → slice_get ys i ≡ o → (c : C) → option_map g o ≡ Some c →
      (rest : List C) → rest ≡ map g (drop (i + 1) ys) → c ∷ rest ≡ map g (drop i ys)
  by_slot None ys i is c told rest same = absurd (cc)
  by_slot (Some y) ys i is c told rest same =
      let head : g y ≡ c = cc in
      ap₂ (λ (d : C) (ds : List C). d ∷ ds) (sym head) same
      ∙ sym (at_drop_more (map g) ys i y (there ys i y is) ∙ ap (λ (z : Y). g z ∷ map g (drop (i + 1) ys)) (get_or_from_slice_get ys i y y is))
    where
      there : (ys : List Y) (i : ℕ) (y : Y) → slice_get ys i ≡ Some y → i < length ys
      there [] zero y is = absurd (cc)
      there [] (suc i) y is = absurd (cc)
      there (z ∷ ys) zero y is = omega arith
      there (z ∷ ys) (suc i) y is = let rest = there ys i y is in omega (arith, rest)

  -- where the one at a place is asked, and those behind it are, so are those from it on
  pub asked_on : (xs : List X) (ys : List Y) (i : ℕ) (x : X) → i < length xs → x ≡ get_or xs i x → option_map g (slice_get ys i) ≡ Some (f x) →
      F (drop (i + 1) xs) ≡ map g (drop (i + 1) ys) → F (drop i xs) ≡ map g (drop i ys)
  asked_on xs ys i x within at told rest =
      at_drop_more F xs i x within ∙ ap (λ (y : X). F (y ∷ drop (i + 1) xs)) (sym at) ∙ step x (drop (i + 1) xs)
      ∙ by_slot (slice_get ys i) ys i refl (f x) told (F (drop (i + 1) xs)) rest

  -- none are left
  pub asked_out : (xs : List X) (ys : List Y) (i : ℕ) → length xs ≤ i → length ys ≤ i → F (drop i xs) ≡ map g (drop i ys)
  asked_out xs ys i past also = at_drop_all F xs i past ∙ none ∙ sym (at_drop_all (map g) ys i also)

  -- as many are asked as there are
  pub as_many : (xs : List X) (ys : List Y) → F xs ≡ map g ys → length xs ≡ length ys
  as_many xs ys same = sym (count xs) ∙ ap length same ∙ length-map ys g
