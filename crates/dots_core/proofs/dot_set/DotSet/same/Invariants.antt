use Rattle.std.proofs.Common.{◌≡◌, ℕ, ◌<◌}
use Rattle.dots_core.specs.Parts.{part_at}
use Rattle.dots_core.proofs.dot_set.DotSet.same.Given as goal

abbrev pub invariant-loop-name : goal.invariant-loop-name
invariant-loop-name g l = (n : ℕ) → n < l.name → part_at l.self-inside.parts n ≡ part_at l.other-inside.parts n
