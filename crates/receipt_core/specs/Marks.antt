-- How the code finds a place that is named twice: by a mark for each place.
use Rattle.std.specs.Prelude.{◌≡◌, ℕ, ◌-◌, ◌<◌, ◌≤◌, Bool, true, false, List, [], ◌∷◌, slice_set, slice_index_or}

-- each place counts from 1 and has a mark, which is not set, and no place is named twice
abbrev pub Fresh : List Bool → List ℕ → Type 0
Fresh marks [] = Unit {0}
Fresh marks (p ∷ ps) = (0 < p) × (slice_index_or marks (p - 1) true ≡ false) × Fresh (slice_set marks (p - 1) true) ps

-- the place is one of a history of this length
abbrev pub Within : ℕ → ℕ → Type 0
Within n p = (0 < p) × (p ≤ n)
