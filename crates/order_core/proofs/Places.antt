-- Lists, parted at a place.
use Rattle.std.proofs.Common.{◌≡◌, ℕ, suc, ◌+◌, List, [], ◌∷◌, ◌++◌, take, drop, slice_get, Some, sym, ap, ◌∙◌, arith}
use Rattle.std.proofs.Math.Seq.{drop-cons, take-suc}
use Rattle.std.proofs.lemmas.Option.{get_or_from_slice_get, slice_get_within}

-- the elements from a place on begin with the one that stands there
pub from_on : {X : Type 0} (xs : List X) (i : ℕ) (x : X) → slice_get xs i ≡ Some x → drop i xs ≡ x ∷ drop (i + 1) xs
from_on xs i x at =
    let one : suc i ≡ i + 1 = omega arith in
    drop-cons xs i x (slice_get_within xs i x at) ∙ ap (λ y. y ∷ drop (suc i) xs) (get_or_from_slice_get xs i x x at) ∙ ap (λ n. x ∷ drop n xs) one

-- those up to a place end with it
pub up_to : {X : Type 0} (xs : List X) (i : ℕ) (x : X) → slice_get xs i ≡ Some x → take (i + 1) xs ≡ take i xs ++ x ∷ []
up_to xs i x at =
    let one : suc i ≡ i + 1 = omega arith in
    ap (λ n. take n xs) (sym one) ∙ take-suc xs i x (slice_get_within xs i x at) ∙ ap (λ y. take i xs ++ y ∷ []) (get_or_from_slice_get xs i x x at)
