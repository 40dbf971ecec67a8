use Rattle.dots_core.specs.Unions.{HaveNone}
use Rattle.dots_core.proofs.dot_set.next_with_some.Given as goal

-- no name so far is one of these and has a clock
abbrev pub invariant-loop-next : goal.invariant-loop-next
invariant-loop-next g l = HaveNone l.names l.parts l.name l.next
