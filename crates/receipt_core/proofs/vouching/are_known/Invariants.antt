use Rattle.std.proofs.Common.{◌≡◌, drop}
use Rattle.bench_core.specs.Acts.{calls_of}
use Rattle.receipt_core.specs.Races.{are_known}
use Rattle.receipt_core.proofs.vouching.are_known.Given as goal

abbrev pub invariant-loop-actor : goal.invariant-loop-actor
invariant-loop-actor g l = are_known l.actors (calls_of l.lines) ≡ are_known l.actors (calls_of (drop l.actor-index l.lines))
