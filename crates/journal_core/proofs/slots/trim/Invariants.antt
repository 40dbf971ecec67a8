use Rattle.std.proofs.Common.{◌≡◌, ◌≤◌, vec_len, vec_capacity}
use Rattle.journal_core.specs.Numbers.{Rises}
use Rattle.journal_core.specs.Slots.{steps_in, AreAligned}
use Rattle.journal_core.proofs.slots.trim.Given as goal

abbrev pub invariant-loop-slots : goal.invariant-loop-slots
invariant-loop-slots g l = record {
  rises : Rises l.numbers.items;
  aligned : AreAligned l.numbers.items l.slots.items;
  steps : steps_in l.slots.items ≡ steps_in l.initial.slots.items;
  numbers_room : vec_len l.numbers ≤ vec_len l.initial.numbers;
  numbers_capacity : vec_capacity l.numbers ≡ vec_capacity l.initial.numbers;
  slots_room : vec_len l.slots ≤ vec_len l.initial.slots;
  slots_capacity : vec_capacity l.slots ≡ vec_capacity l.initial.slots;
}

abbrev pub decreases-loop-slots : goal.decreases-loop-slots
decreases-loop-slots g l = vec_len l.slots
