-- What a read gives.
use Rattle.std.proofs.Common.{◌≡◌, ℕ, zero, suc, ◌<◌, false, List, [], ◌∷◌, length, nat_lt, get_or, map, slice_get, slice_index_or, Some, None, refl, sym, ap, subst, arith}
use Rattle.std.specs.List.{AllByRecursion}
use Rattle.std.proofs.lemmas.Bool.{ltb-false}
use Rattle.std.proofs.lemmas.Option.{slice_get_past}

-- what a read at a place gives
pub read_at : {X : Type 0} (xs : List X) (i : ℕ) (x : X) → i < length xs → x ≡ get_or xs i x → slice_get xs i ≡ Some x
read_at [] i x lt h = absurd (omega (arith, lt))
read_at (y ∷ xs) zero x lt h = ap Some (sym h)
read_at (y ∷ xs) (suc i) x lt h = read_at xs i x (omega (arith, lt)) h

-- one of a type that is copied
pub read_or : {X : Type 0} (xs : List X) (i : ℕ) (x : X) → i < length xs → slice_get xs i ≡ Some (slice_index_or xs i x)
read_or [] i x lt = absurd (omega (arith, lt))
read_or (y ∷ xs) zero x lt = refl
read_or (y ∷ xs) (suc i) x lt = read_or xs i x (omega (arith, lt))

pub nothing_read : {X : Type 0} (xs : List X) (i : ℕ) → nat_lt i (length xs) ≡ false → slice_get xs i ≡ None
nothing_read xs i h = slice_get_past xs i (ltb-false i (length xs) h)

-- within a list there is something
pub there : {X : Type 0} (xs : List X) (i : ℕ) → i < length xs → (x : X) × (slice_get xs i ≡ Some x)
there [] i lt = absurd (omega (arith, lt))
there (x ∷ xs) zero lt = (x, refl)
there (x ∷ xs) (suc i) lt = there xs i (omega (arith, lt))

-- of each of the list
pub get_map : {X Y : Type 0} (f : X → Y) (xs : List X) (i : ℕ) (x : X) → slice_get xs i ≡ Some x → slice_get (map f xs) i ≡ Some (f x)
get_map f [] i x h = absurd (cc)
get_map f (y ∷ xs) zero x h = let same : y ≡ x = cc in ap (λ y. Some (f y)) same
get_map f (y ∷ xs) (suc i) x h = get_map f xs i x h

-- what holds of all
pub all_get : {X : Type 0} (P : X → Type 0) (xs : List X) (i : ℕ) (x : X) → AllByRecursion P xs → slice_get xs i ≡ Some x → P x
all_get P [] i x all h = absurd (cc)
all_get P (y ∷ xs) zero x all h = let same : y ≡ x = cc in subst P same all.0
all_get P (y ∷ xs) (suc i) x all h = all_get P xs i x all.1 h
