-- Walks over a list, place by place.
use Rattle.std.proofs.Common.{◌≡◌, ℕ, ◌+◌, ◌<◌, ◌≤◌, List, ◌∷◌, ◌++◌, length, map, drop, get_or, Some, slice_get, sym, ap, ◌∙◌, append_assoc}
use Rattle.std.specs.List.{fold}
use Rattle.std.proofs.lemmas.List.{at_drop_more, at_drop_all}
use Rattle.std.proofs.lemmas.Option.{get_or_from_slice_get}

-- what is left of a list, where this is at the place
pub left_more : {X Y : Type 0} (f : List X → Y) (xs : List X) (i : ℕ) (x : X) → i < length xs → Some x ≡ slice_get xs i →
    f (drop i xs) ≡ f (x ∷ drop (i + 1) xs)
left_more f xs i x within at = at_drop_more f xs i x within ∙ ap (λ y. f (y ∷ drop (i + 1) xs)) (get_or_from_slice_get xs i x x (sym at))

-- the same, where the place is known to be within
pub left_is : {X Y : Type 0} (f : List X → Y) (xs : List X) (i : ℕ) (x : X) → i < length xs → x ≡ get_or xs i x →
    f (drop i xs) ≡ f (x ∷ drop (i + 1) xs)
left_is f xs i x within at = at_drop_more f xs i x within ∙ ap (λ y. f (y ∷ drop (i + 1) xs)) (sym at)

-- one more of a fold
pub fold_more : {X Y : Type 0} (f : Y → X → Y) (now next whole : Y) (xs : List X) (i : ℕ) (x : X) → i < length xs → Some x ≡ slice_get xs i →
    fold f now (drop i xs) ≡ whole → next ≡ f now x → fold f next (drop (i + 1) xs) ≡ whole
fold_more f now next whole xs i x within at so_far is =
    ap (λ a. fold f a (drop (i + 1) xs)) is ∙ sym (left_more (fold f now) xs i x within at) ∙ so_far

-- no more of it
pub fold_all : {X Y : Type 0} (f : Y → X → Y) (now whole : Y) (xs : List X) (i : ℕ) → length xs ≤ i → fold f now (drop i xs) ≡ whole → now ≡ whole
fold_all f now whole xs i past so_far = sym (at_drop_all (fold f now) xs i past) ∙ so_far

-- one piece more of a text
pub piece_more : {X B : Type 0} (xs : List X) (i : ℕ) (x : X) (f : List X → List B) (piece : X → List B) (whole now next : List B) →
    ((y : X) (ys : List X) → f (y ∷ ys) ≡ piece y ++ f ys) → i < length xs → Some x ≡ slice_get xs i →
    now ++ f (drop i xs) ≡ whole → next ≡ now ++ piece x → next ++ f (drop (i + 1) xs) ≡ whole
piece_more {X} {B} xs i x f piece whole now next step within at so_far more =
    let rest = f (drop (i + 1) xs) in
    let split : f (drop i xs) ≡ piece x ++ rest = left_more f xs i x within at ∙ step x (drop (i + 1) xs) in
    ap (λ (t : List B). t ++ rest) more ∙ append_assoc now (piece x) rest ∙ ap (λ (t : List B). now ++ t) (sym split) ∙ so_far

-- the same of what is seen of the items
pub fold_mapped : {X Y Z : Type 0} (f : Y → Z → Y) (view : X → Z) (now next whole : Y) (xs : List X) (i : ℕ) (d : X) → i < length xs →
    fold f now (map view (drop i xs)) ≡ whole → next ≡ f now (view (get_or xs i d)) → fold f next (map view (drop (i + 1) xs)) ≡ whole
fold_mapped f view now next whole xs i d within so_far is =
    ap (λ a. fold f a (map view (drop (i + 1) xs))) is ∙ sym (at_drop_more (λ ys. fold f now (map view ys)) xs i d within) ∙ so_far

pub fold_mapped_all : {X Y Z : Type 0} (f : Y → Z → Y) (view : X → Z) (now whole : Y) (xs : List X) (i : ℕ) → length xs ≤ i →
    fold f now (map view (drop i xs)) ≡ whole → now ≡ whole
fold_mapped_all f view now whole xs i past so_far = sym (at_drop_all (λ ys. fold f now (map view ys)) xs i past) ∙ so_far
