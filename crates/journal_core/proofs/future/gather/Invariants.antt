use Rattle.std.proofs.Common.{◌≡◌, length}
use Rattle.journal_core.specs.Holdings.{kepts}
use Rattle.journal_core.specs.Bounds.{IsGatheredUpTo, steps_left}
use Rattle.journal_core.proofs.future.gather.Given as goal

abbrev pub invariant-loop-next : goal.invariant-loop-next
invariant-loop-next g l = record {
  long : length l.bounds ≡ length l.initial.bounds;
  state : IsGatheredUpTo (kepts l.slots.steps) l.number l.numbers.items l.bounds l.next;
}

abbrev pub decreases-loop-next : goal.decreases-loop-next
decreases-loop-next g l = steps_left (kepts l.slots.steps) l.next
