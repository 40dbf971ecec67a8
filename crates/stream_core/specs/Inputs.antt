-- What is read from a whole input.
use Rattle.std.specs.Prelude.{◌≡◌, ℕ, ◌<◌, ◌≤◌, List, length, take, ⊤, Option, None, Some}
use Rattle.std.specs.Io.KnownBytes.{Consumes}

-- if the reader's bytes are known, these are all that it had
abbrev pub IsWhole : Option (List ℕ) → List ℕ → Type 0
IsWhole None bytes = ⊤
IsWhole (Some input) bytes = bytes ≡ input

-- if the reader's bytes are known, these are the first that it had, at most `most`
abbrev pub IsFront : Option (List ℕ) → ℕ → List ℕ → Type 0
IsFront None most bytes = ⊤
IsFront (Some input) most bytes = bytes ≡ take most input

-- if the reader's bytes are known, it had more than `limit`
abbrev pub IsLonger : Option (List ℕ) → ℕ → Type 0
IsLonger None limit = ⊤
IsLonger (Some input) limit = limit < length input

-- if the reader's bytes are known, at most `most` of them were taken
abbrev pub TakesAtMost : Option (List ℕ) → Option (List ℕ) → ℕ → Type 0
TakesAtMost old new most = (bytes : List ℕ) × Consumes old new bytes × (length bytes ≤ most)
