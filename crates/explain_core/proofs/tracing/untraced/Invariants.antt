use Rattle.std.proofs.Common.{◌≡◌, map, take}
use Rattle.explain_core.specs.Tracings.{untraced}
use Rattle.explain_core.proofs.tracing.untraced.Given as goal

-- the presences so far
abbrev pub invariant-loop-making : goal.invariant-loop-making
invariant-loop-making g l = l.traced.items ≡ map (untraced l.nodes) (take l.making-index l.makings)
