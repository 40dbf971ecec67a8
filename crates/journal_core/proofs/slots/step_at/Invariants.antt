use Rattle.std.proofs.Common.{◌≡◌, slice_get, drop}
use Rattle.journal_core.specs.Slots.{steps_in}
use Rattle.journal_core.proofs.slots.step_at.Given as goal

abbrev pub invariant-loop-slot : goal.invariant-loop-slot
invariant-loop-slot g l = slice_get (steps_in l.slots) l.place ≡ slice_get (steps_in (drop l.slot-index l.slots)) l.left
