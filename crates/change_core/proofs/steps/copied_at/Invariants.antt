use Rattle.std.proofs.Common.{◌≡◌, ◌++◌, drop}
use Rattle.change_core.specs.Marked.{steps_at}
use Rattle.change_core.proofs.steps.copied_at.Given as goal

-- what is left comes behind what was copied
abbrev pub invariant-loop-place : goal.invariant-loop-place
invariant-loop-place g l = l.copies.items ++ steps_at l.steps (drop l.place l.marks) ≡ steps_at l.steps l.marks
