use Rattle.std.proofs.Common.{◌↔◌, ◌<◌, drop}
use Rattle.std.specs.List.{AllByRecursion}
use Rattle.bench_core.specs.Acts.{calls_of}
use Rattle.receipt_core.proofs.agreeing.are_known.Given as goal

abbrev pub invariant-loop-actor : goal.invariant-loop-actor
invariant-loop-actor g l =
    AllByRecursion (λ call. call.0 < l.lists) (calls_of l.lines) ↔ AllByRecursion (λ call. call.0 < l.lists) (calls_of (drop l.actor-index l.lines))
