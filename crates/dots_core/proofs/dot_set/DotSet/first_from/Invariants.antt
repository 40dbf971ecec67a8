use Rattle.std.specs.FinSet as set
use Rattle.dots_core.proofs.FirstFrom.{ArePassed}
use Rattle.dots_core.proofs.dot_set.DotSet.first_from.Given as goal

-- the names so far have no such dot
abbrev pub invariant-loop-name : goal.invariant-loop-name
invariant-loop-name g l = ArePassed (set.contains l.names) l.self l.dot l.name
