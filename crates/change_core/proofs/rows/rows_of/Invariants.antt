use Rattle.std.proofs.Common.{◌≡◌, filter, take}
use Rattle.change_core.specs.Questions.{is_of}
use Rattle.change_core.proofs.rows.rows_of.Given as goal

-- those of the first rows
abbrev pub invariant-loop-row : goal.invariant-loop-row
invariant-loop-row g l = l.found.items ≡ filter (is_of l.topic l.key) (take l.row-index l.rows)
