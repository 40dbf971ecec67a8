use Rattle.std.proofs.Common.{◌≡◌, ◌<◌, ℕ, Some, slice_get}
use Rattle.journal_core.specs.Holdings.{kepts}
use Rattle.bench_core.specs.declared.movable.Movable.{Movable}
use Rattle.bench_core.specs.Movables.{IsSameAt}
use Rattle.bench_core.proofs.swaps.are_steps_of.Given as goal

-- the steps so far are the same
abbrev pub invariant-loop-i : goal.invariant-loop-i
invariant-loop-i g l =
    (i : ℕ) (m : Movable) → i < l.i → slice_get l.steps i ≡ Some m → IsSameAt (kepts l.one.steps) m.place (kepts l.other.steps) i
