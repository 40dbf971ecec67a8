use Rattle.std.proofs.Common.{◌≡◌, take}
use Rattle.diff_core.proofs.changing.copies.Given as goal

-- the rows so far
abbrev pub invariant-loop-row : goal.invariant-loop-row
invariant-loop-row g l = l.found.items ≡ take l.row-index l.rows
