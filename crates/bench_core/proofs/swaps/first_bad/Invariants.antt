use Rattle.std.proofs.Common.{◌≡◌, ◌+◌, drop}
use Rattle.bench_core.specs.Swaps.{after_swaps, exchanged}
use Rattle.bench_core.specs.Movables.{may_swap}
use Rattle.bench_core.proofs.swaps.first_bad.Given as goal

-- the swaps that are left lead from these steps where all lead from the first
abbrev pub invariant-loop-i : goal.invariant-loop-i
invariant-loop-i l =
    after_swaps (exchanged may_swap) 1 l.initial.steps l.places ≡ after_swaps (exchanged may_swap) (l.i + 1) l.steps (drop l.i l.places)
