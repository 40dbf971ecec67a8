use Rattle.std.proofs.Common.{◌≡◌, length, map}
use Rattle.explain_core.specs.Tracings.{traced_from}
use Rattle.explain_core.proofs.SoFar.{SoFar}
use Rattle.explain_core.proofs.tracing.follow_steps.Given as goal

-- the steps to come, followed from here on, give the whole tracks
abbrev pub invariant-loop-kept : goal.invariant-loop-kept
invariant-loop-kept g l = record {
  same : map (traced_from l.asked l.steps) l.traced ≡ map (traced_from l.fn.asked l.bench.state.remaining) l.fn.traced;
  so_far : SoFar l.bench l.steps l.asked l.traced;
}

abbrev pub decreases-loop-kept : goal.decreases-loop-kept
decreases-loop-kept g l = length l.steps
