-- One more event came.
use Rattle.std.proofs.Common.{◌≡◌, ◌⊎◌, inl, inr, ℕ, zero, suc, ◌<◌, ◌≤◌, List, [], ◌∷◌, ◌++◌, length, take}
use Rattle.std.proofs.Common.{slice_index, refl, sym, ◌∙◌, subst, arith}
use Rattle.std.specs.List.{Contains}
use Rattle.std.proofs.lemmas.Bool.{cases_lt}
use Rattle.std.proofs.lemmas.List.{get_or-take, get_or_default, length-take-le}
use Rattle.std.proofs.lemmas.List.Elements.{Contains-append_left, Contains-append_right, Contains-append_cases}

-- lists that contain a number

pub no_member : (q : ℕ) → Contains [] q → ⊥
no_member q h = absurd (omega (arith, h.1))

pub last_in : (came : List ℕ) (p : ℕ) → Contains (came ++ p ∷ []) p
last_in came p = Contains-append_right came (p ∷ []) p (0, omega arith, refl)

pub old_in : (came : List ℕ) (p q : ℕ) → Contains came q → Contains (came ++ p ∷ []) q
old_in came p q h = Contains-append_left came (p ∷ []) q h

alone : (p q : ℕ) → Contains (p ∷ []) q → q ≡ p
alone p q (zero, low, is) = sym is
alone p q (suc k, low, is) = absurd (omega (arith, low))

pub old_or_last : (came : List ℕ) (p q : ℕ) → Contains (came ++ p ∷ []) q → Contains came q ⊎ (q ≡ p)
old_or_last came p q h = elim (Contains-append_cases came (p ∷ []) q h) [ inl old ↦ inl old | inr new ↦ inr (alone p q new) ]

-- the place in the list of what its beginning contains
pub in_beginning : (n : ℕ) (order : List ℕ) (q : ℕ) → n ≤ length order → Contains (take n order) q → (j : ℕ) × (j < n) × (slice_index order j ≡ q)
in_beginning n order q within (j, low, is) = go (cases_lt j n)
  where
    go : (j < n) ⊎ (n ≤ j) → (j : ℕ) × (j < n) × (slice_index order j ≡ q)
    go (inl h) = (j, h, get_or_default order j 0 q (omega arith) ∙ sym (get_or-take n order j q h) ∙ is)
    go (inr h) = absurd (omega (arith, low, length-take-le n order within))

pub beginning_has : (n : ℕ) (order : List ℕ) (j : ℕ) → n ≤ length order → j < n → Contains (take n order) (slice_index order j)
beginning_has n order j within low = (
  j,
  subst (λ m. j < m) (sym (length-take-le n order within)) low,
  get_or-take n order j (slice_index order j) low ∙ get_or_default order j (slice_index order j) 0 (omega arith),
)
