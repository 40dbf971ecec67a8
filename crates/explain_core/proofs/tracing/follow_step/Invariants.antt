use Rattle.std.proofs.Common.{◌≡◌, ◌++◌, map, take, drop}
use Rattle.explain_core.specs.Tracings.{traced_on}
use Rattle.explain_core.proofs.tracing.follow_step.Given as goal

-- the first of them have been followed
abbrev pub invariant-loop-next : goal.invariant-loop-next
invariant-loop-next g l = l.traced ≡ map (traced_on l.asked l.kept) (take l.next-index l.fn.traced) ++ drop l.next-index l.fn.traced
