use Rattle.std.proofs.Common.{◌≡◌, ◌++◌}
use Rattle.change_core.specs.Marked.{marks_in}
use Rattle.change_core.proofs.changed.put_piece.Given as goal

-- what is left comes behind what is there
abbrev pub invariant-loop-place : goal.invariant-loop-place
invariant-loop-place g l = l.marks.items ++ marks_in l.steps (l.place, l.fn.to) ≡ l.fn.marks.items ++ marks_in l.steps (l.fn.from, l.fn.to)
