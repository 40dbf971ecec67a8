-- Steps beside their numbers in slots, some of which may be empty.
use Rattle.std.specs.Prelude.{◌≡◌, ℕ, ◌<◌, Bool, false, is_none, List, [], ◌∷◌, Option, Some, None, refl}
use Rattle.std.specs.List.{AllByRecursion}
use Rattle.std.specs.Coded.{Coded, code_by, coded×, coded_ℕ, coded_list}
use Rattle.node_core.specs.Inverses.{Inverse}
use Rattle.journal_core.specs.Holdings.{Held, held_code}

-- the steps, and for how many more there is room
pub record Slots : Type 0 where
  pub steps : List Held
  pub room : ℕ

abbrev pub slots_code : Coded Slots
slots_code =
    code_by (List Held × ℕ) (coded× (coded_list held_code) coded_ℕ) (λ s. (s.steps, s.room)) (λ t. record { steps = t.0; room = t.1 })
    (λ _. refl)

-- the steps in the slots
abbrev pub steps_in : List (Option Held) → List Held
steps_in [] = []
steps_in (None ∷ os) = steps_in os
steps_in (Some h ∷ os) = h ∷ steps_in os

-- there are as many slots as numbers, and each step stands beside its own number
abbrev pub AreAligned : List ℕ → List (Option Held) → Type 0
AreAligned [] [] = Unit {0}
AreAligned [] (o ∷ os) = ⊥
AreAligned (n ∷ ns) [] = ⊥
AreAligned (n ∷ ns) (None ∷ os) = AreAligned ns os
AreAligned (n ∷ ns) (Some h ∷ os) = (h.kept.number ≡ n) × AreAligned ns os

-- n is above 0, and above the number of each step
abbrev pub IsAboveAll : ℕ → List Held → Type 0
IsAboveAll n hs = (0 < n) × AllByRecursion (λ (h : Held). h.kept.number < n) hs

-- whether the last slot is empty
abbrev pub ends_empty : List (Option Held) → Bool
ends_empty [] = false
ends_empty (o ∷ []) = is_none o
ends_empty (o ∷ p ∷ os) = ends_empty (p ∷ os)

-- the slot with this inverse, or none, beside its step; an empty slot stays empty
abbrev pub lent_in : Option Inverse → Option Held → Option Held
lent_in i None = None
lent_in i (Some h) = Some (record { kept = h.kept; inverse = i })

-- how many steps a slot has
abbrev pub count_in : Option Held → ℕ
count_in None = 0
count_in (Some h) = 1
