use Rattle.std.proofs.Common.{◌≡◌, ℕ, length, slice_get, Some}
use Rattle.report_core.specs.MovedRows.{Moves, no_moves}
use Rattle.report_core.proofs.moved.none_moved.Given as goal

-- one for each node so far, without a row
abbrev pub invariant-loop : goal.invariant-loop
invariant-loop g l =
    (length l.moved.items ≡ l.counter) × ((n : ℕ) (moves : Moves) → slice_get l.moved.items n ≡ Some moves → moves ≡ no_moves)
