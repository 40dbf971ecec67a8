use Rattle.std.proofs.Common.{◌≡◌, take}
use Rattle.change_core.proofs.rows.copied_rows.Given as goal

-- copies of the first rows
abbrev pub invariant-loop-row : goal.invariant-loop-row
invariant-loop-row g l = l.copies.items ≡ take l.row-index l.rows
