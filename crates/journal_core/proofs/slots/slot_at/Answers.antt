use Rattle.std.proofs.Common.{◌∙◌, sym, arith, None}
use Rattle.std.proofs.lemmas.List.{get_or_read}
use Rattle.journal_core.specs.Slots.{steps_in}
use Rattle.journal_core.proofs.Filled.{full_at, get_past}
use Rattle.journal_core.proofs.slots.slot_at.Goals as goal

pub returns-then-place-slots : goal.returns-then-place-slots
returns-then-place-slots g c = c.as_ref.ensures.value
    ∙ get_or_read c.args.slots.now c.args.place c.index-slots-place.result c.if-place-slots.true c.index-slots-place.is None
    ∙ full_at c.args.slots.now c.args.place c.requires c.if-place-slots.true

pub returns-else-place-slots : goal.returns-else-place-slots
returns-else-place-slots g c =
    let full = c.requires in let past = c.if-place-slots.false in sym (get_past (steps_in c.args.slots.now) c.args.place (omega arith))
