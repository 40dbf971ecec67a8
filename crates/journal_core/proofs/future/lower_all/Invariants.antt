use Rattle.std.proofs.Common.{◌≡◌, length, drop}
use Rattle.journal_core.specs.Holdings.{kepts}
use Rattle.journal_core.specs.Bounds.{lowered}
use Rattle.journal_core.proofs.future.lower_all.Given as goal

abbrev pub invariant-loop-number : goal.invariant-loop-number
invariant-loop-number g l = record {
  long : length l.bounds ≡ length l.initial.bounds;
  rest : lowered (kepts l.slots.steps) (drop l.number-index l.numbers) l.bounds ≡ lowered (kepts l.slots.steps) l.numbers l.initial.bounds;
}
