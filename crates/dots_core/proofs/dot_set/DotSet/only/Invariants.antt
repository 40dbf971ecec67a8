use Rattle.dots_core.proofs.Unions.{IsChosen}
use Rattle.dots_core.proofs.dot_set.DotSet.only.Given as goal

abbrev pub invariant-loop-name : goal.invariant-loop-name
invariant-loop-name g l = IsChosen l.self-inside.parts l.names l.name l.chosen-inside.parts
