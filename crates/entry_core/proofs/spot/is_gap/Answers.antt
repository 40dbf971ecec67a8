use Rattle.entry_core.proofs.EntryLists.{spot_gap}
use Rattle.entry_core.proofs.spot.is_gap.Goals as goal

pub returns : goal.returns
returns g c =
    λ yes. (
      c.if-place-entries.false,
      spot_gap c.args.dot c.args.entries.now c.args.place c.requires c.if-place-entries.false (c.is_behind.ensures c.if-not-is_behind.false)
          (c.is_before.ensures yes),
    )
