use Rattle.std.proofs.Common.{◌≡◌, ℕ, ◌<◌}
use Rattle.dots_core.specs.Clocks.{no_clocks}
use Rattle.dots_core.specs.Parts.{part_at}
use Rattle.dots_core.proofs.dot_set.DotSet.is_empty.Given as goal

abbrev pub invariant-loop-name : goal.invariant-loop-name
invariant-loop-name g l = (n : ℕ) → n < l.name → part_at l.self-inside.parts n ≡ no_clocks
