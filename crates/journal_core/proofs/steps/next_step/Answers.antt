use Rattle.std.proofs.Common.{◌∙◌, ◌∷◌, Option, ap}
use Rattle.std.specs.Slice.Iter.{iter_rest}
use Rattle.journal_core.specs.Holdings.{Held}
use Rattle.journal_core.specs.Slots.{steps_in}
use Rattle.journal_core.proofs.steps.next_step.Goals as goal

pub returns-in-Some-slot : goal.returns-in-Some-slot
returns-in-Some-slot g c =
    c.loop-slot.invariant ∙ ap steps_in c.in-Some.ensures.steps
    ∙ ap (λ (o : Option Held). steps_in (o ∷ iter_rest c.next.new.self)) c.in-Some-slot.is
