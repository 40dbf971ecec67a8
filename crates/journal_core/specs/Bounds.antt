-- How the future of a step is gathered, from the step on: a node may have a bound, and its steps above the bound follow from that step.
use Rattle.std.specs.Prelude.{◌≡◌, ℕ, ◌-◌, ◌&&◌, nat_lt, nat_le, length, Bool, true, false, if◌then◌else◌, List, [], ◌∷◌, filter}
use Rattle.std.specs.Prelude.{slice_set, slice_index_or, Option, Some, None}
use Rattle.journal_core.specs.Numbers.{first_above}
use Rattle.journal_core.specs.Journals.{Kept, find_number, is_consequence, numbers}
use Rattle.journal_core.specs.Futures.{Follows}
use Rattle.journal_core.specs.Causes.{Causes, causes_at, delivered}

-- whether a number is above a bound; without a bound it isn't
abbrev pub is_above : Option ℕ → ℕ → Bool
is_above None n = false
is_above (Some a) n = nat_lt a n

-- the bound of a node, if it has one
abbrev pub bound_at : List (Option ℕ) → ℕ → Option ℕ
bound_at bs node = slice_index_or bs node None

-- whether a step is above the bound of its node
abbrev pub reaches : List (Option ℕ) → Kept → Bool
reaches bs k = is_above (bound_at bs k.node) k.number

-- the bound, if it is below this number; else the bound just below this number
abbrev pub lower_bound : Option ℕ → ℕ → Option ℕ
lower_bound None n = Some (n - 1)
lower_bound (Some a) n = Some (if nat_lt a n then a else n - 1)

-- the bounds, with that of the step's node lowered below the step's number; the same bounds if there is no step
abbrev pub lower_at : List (Option ℕ) → Option Kept → List (Option ℕ)
lower_at bs None = bs
lower_at bs (Some k) = slice_set bs k.node (lower_bound (bound_at bs k.node) k.number)

-- the bounds, lowered in this way for each step that has one of these numbers
abbrev pub lowered : List Kept → List ℕ → List (Option ℕ) → List (Option ℕ)
lowered ks [] bs = bs
lowered ks (n ∷ ns) bs = lowered ks ns (lower_at bs (find_number ks n))

-- the deliveries of what step n sent, as its node's index has them; none if the step isn't there
abbrev pub delivered_from : List Causes → Option Kept → ℕ → List ℕ
delivered_from cs None n = []
delivered_from cs (Some k) n = delivered (causes_at cs k.node).sent (causes_at cs k.node).deliveries n

-- the first of these numbers that is above the bound and above n; none if there is no bound
abbrev pub next_own : Option ℕ → ℕ → List ℕ → Option ℕ
next_own None n ns = None
next_own (Some a) n ns = first_above (if nat_lt a n then n else a) ns

abbrev pub is_before : Option ℕ → ℕ → Bool
is_before None n = true
is_before (Some m) n = nat_lt n m

-- the next step, if one is named, remains, and is above the bound of its node
abbrev pub IsNext : List Kept → List (Option ℕ) → Option ℕ → Type 0
IsNext ks bs None = Unit {0}
IsNext ks bs (Some m) = (k : Kept) × (find_number ks m ≡ Some k) × (reaches bs k ≡ true)

-- the numbers are those of the steps above the bounds and before the next step. Step n, if it remains, is above the bounds, and so is each
-- consequence of a step so gathered; and each remaining step above the bounds follows from step n
pub record IsGatheredUpTo (ks : List Kept) (n : ℕ) (ns : List ℕ) (bs : List (Option ℕ)) (next : Option ℕ) : Type 0 where
  pub gathered : ns ≡ numbers (filter (λ k. reaches bs k && is_before next k.number) ks)
  pub upcoming : IsNext ks bs next
  pub start : (k : Kept) → find_number ks n ≡ Some k → reaches bs k ≡ true
  pub sound : (k : Kept) → find_number ks k.number ≡ Some k → reaches bs k ≡ true → Follows ks n k.number
  pub closed : (k j : Kept) → find_number ks k.number ≡ Some k → find_number ks j.number ≡ Some j → reaches bs k ≡ true →
      is_before next k.number ≡ true → is_consequence ks k j ≡ true → reaches bs j ≡ true

-- how many steps are still to be looked at: the next one and those after it
abbrev pub steps_left : List Kept → Option ℕ → ℕ
steps_left ks None = 0
steps_left ks (Some m) = length (filter (λ k. nat_le m k.number) ks)
