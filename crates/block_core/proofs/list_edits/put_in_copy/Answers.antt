use Rattle.std.proofs.Common.{◌∙◌, ap, subst, sym}
use Rattle.std.specs.FinMap as fin
use Rattle.block_core.specs.Blocks.{AreNear, IsPutIn, live_map}
use Rattle.entry_core.specs.EntryLists.{Rises}
use Rattle.entry_core.specs.Lists.{live_ones}
use Rattle.block_core.proofs.LiveMaps.{near_live, only_live, put_to_live, rises_live}
use Rattle.block_core.proofs.list_edits.put_in_copy.Goals as goal

pub listed_with-requires-clause-rises : goal.listed_with-requires-clause-rises
listed_with-requires-clause-rises g c =
    subst Rises (sym (c.in-Ok.ensures ∙ ap (live_ones c.args.live) c.as_slice.ensures)) (rises_live c.args.live c.args.items.now c.requires.rises)

pub listed_with-requires-clause-near : goal.listed_with-requires-clause-near
listed_with-requires-clause-near g c =
    subst (AreNear c.args.entry.dot) (sym (c.in-Ok.ensures ∙ ap (live_ones c.args.live) c.as_slice.ensures))
    (near_live c.args.live c.args.entry c.args.items.now c.requires.near)

pub listed_with-requires-clause-new : goal.listed_with-requires-clause-new
listed_with-requires-clause-new g c =
    ap (λ es. fin.get (live_map c.args.live es) c.args.entry.dot) (c.in-Ok.ensures ∙ ap (live_ones c.args.live) c.as_slice.ensures)
    ∙ ap (λ m. fin.get m c.args.entry.dot) (only_live c.args.live c.args.items.now c.requires.rises) ∙ c.requires.new

pub returns-in-Ok-listed_with-clause-ok : goal.returns-in-Ok-listed_with-clause-ok
returns-in-Ok-listed_with-clause-ok g c =
    put_to_live c.args.live c.args.entry c.args.items.now c.in-Ok-listed_with.list c.requires.rises
    (subst (λ es. IsPutIn c.args.live c.args.entry es c.in-Ok-listed_with.list)
    (c.in-Ok.ensures ∙ ap (live_ones c.args.live) c.as_slice.ensures) c.in-Ok-listed_with.ensures.ok)
