-- What is read from an input, line by line.
use Rattle.std.specs.Prelude.{◌≡◌, ◌≢◌, ℕ, ◌-◌, ◌^◌, ◌≤◌, List, [], length, take, ⊤, Option, None, Some}
use Rattle.std.specs.Io.{StopsAt}
use Rattle.std.specs.List.{All}
use Rattle.std.specs.Io.BufRead.{drop_through, first_piece}
use Rattle.std.specs.Io.KnownBytes.{Consumes}

-- the front of a line: its first `most` bytes, or all of it if it isn't longer
unfoldable pub line_front : ℕ → List ℕ → List ℕ
line_front most line = take most line

-- if the reader's bytes are known: the front of the next line of what it has left, where the whole line is taken; or nothing at its end
abbrev pub IsNext : ℕ → Option (List ℕ) → Option (List ℕ) → Option (List ℕ) → Type 0
IsNext most None new line = ⊤
IsNext most (Some left) new None = (left ≡ []) × (new ≡ Some [])
IsNext most (Some left) new (Some line) = (left ≢ []) × (line ≡ line_front most (first_piece 10 left)) × (new ≡ Some (drop_through 10 left))

-- if the bytes of the input are known, there are at least 2^64 - 2 of them
abbrev pub IsEndless : Option (List ℕ) → Type 0
IsEndless None = ⊤
IsEndless (Some input) = 2 ^ 64 - 2 ≤ length input

-- no more than a beginning of a line was taken in, without its line feed
abbrev pub TakesPart : Option (List ℕ) → Option (List ℕ) → Type 0
TakesPart old new = (bytes : List ℕ) × Consumes old new bytes × All (λ b. b ≢ 10) bytes

-- no more than a line was taken in
abbrev pub TakesLine : Option (List ℕ) → Option (List ℕ) → Type 0
TakesLine old new = (bytes : List ℕ) × Consumes old new bytes × StopsAt bytes 10
