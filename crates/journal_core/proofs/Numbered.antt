-- The p-th of a list, when more is put at its end.
use Rattle.std.proofs.Common.{◌≡◌, ◌≢◌, ℕ, zero, suc, List, [], ◌∷◌, ◌++◌, length, slice_get, Some, refl, ap}
use Rattle.payload_core.specs.Messages.{numbered}

pub get-append_first : {A : Type 0} (xs ys : List A) (i : ℕ) (x : A) → slice_get xs i ≡ Some x → slice_get (xs ++ ys) i ≡ Some x
get-append_first [] ys i x h = absurd (cc)
get-append_first (z ∷ xs) ys zero x h = h
get-append_first (z ∷ xs) ys (suc i) x h = get-append_first xs ys i x h

pub get-append_at : {A : Type 0} (xs ys : List A) (y : A) → slice_get (xs ++ y ∷ ys) (length xs) ≡ Some y
get-append_at [] ys y = refl
get-append_at (x ∷ xs) ys y = get-append_at xs ys y

-- a list with one more at its end has the same at every other place
get_push_other : {A : Type 0} (xs : List A) (y : A) (i : ℕ) → i ≢ length xs → slice_get (xs ++ y ∷ []) i ≡ slice_get xs i
get_push_other [] y zero h = absurd (h refl)
get_push_other [] y (suc i) h = refl
get_push_other (x ∷ xs) y zero h = refl
get_push_other (x ∷ xs) y (suc i) h = get_push_other xs y i (λ e. h (ap suc e))

pub numbered_append : {A : Type 0} (xs ys : List A) (p : ℕ) (x : A) → numbered xs p ≡ Some x → numbered (xs ++ ys) p ≡ Some x
numbered_append xs ys zero x h = absurd (cc)
numbered_append xs ys (suc p) x h = get-append_first xs ys p x h

pub numbered_push_other : {A : Type 0} (xs : List A) (y : A) (p : ℕ) → p ≢ suc (length xs) → numbered (xs ++ y ∷ []) p ≡ numbered xs p
numbered_push_other xs y zero h = refl
numbered_push_other xs y (suc p) h = get_push_other xs y p (λ e. h (ap suc e))
