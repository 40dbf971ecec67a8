use Rattle.std.proofs.Common.{◌∙◌, ap, sym}
use Rattle.entry_core.specs.Presences.{Entry}
use Rattle.entry_core.proofs.EntryLists.{same_dot, slot_within, spot_found}
use Rattle.entry_core.proofs.spot.is_place.Goals as goal

pub returns-in-Some : goal.returns-in-Some
returns-in-Some g c =
    λ yes. (
      slot_within c.args.entries.now c.args.place c.in-Some.entry.now (sym c.in-Some.ensures),
      spot_found c.args.dot c.args.entries.now c.args.place c.in-Some.entry.now c.requires (sym c.in-Some.ensures)
          (ap (λ (e : Entry). e.dot) (sym c.entry.view_is) ∙ same_dot c.entry.inside.dot c.args.dot (sym c.eq.ensures ∙ yes)),
    )
