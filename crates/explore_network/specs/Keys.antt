-- Keys, and whether a key is among them.
use Rattle.std.specs.Prelude.{◌≡◌, ◌⊎◌, ℕ, List, [], ◌∷◌}

-- the key is one of these
abbrev pub IsAmong : List ℕ → List (List ℕ) → Type 0
IsAmong key [] = ⊥
IsAmong key (k ∷ ks) = (k ≡ key) ⊎ IsAmong key ks

-- no two of the keys are the same
abbrev pub AreDifferent : List (List ℕ) → Type 0
AreDifferent [] = Unit {0}
AreDifferent (k ∷ ks) = (IsAmong k ks → ⊥) × AreDifferent ks
