use Rattle.std.proofs.Common.{◌≡◌, length}
use Rattle.std.specs.Slice.Iter.{iter_rest}
use Rattle.journal_core.specs.Slots.{steps_in}
use Rattle.journal_core.proofs.steps.next_step.Given as goal

-- no step stands before
abbrev pub invariant-loop-slot : goal.invariant-loop-slot
invariant-loop-slot g l = steps_in (iter_rest l.initial.slots) ≡ steps_in (iter_rest l.slots)

abbrev pub decreases-loop-slot : goal.decreases-loop-slot
decreases-loop-slot g l = length (iter_rest l.slots)
