use Rattle.std.proofs.Common.{◌≡◌, ◌∙◌, Err, Ok, ap, insert, slice_set, subst, sym}
use Rattle.block_core.specs.Blocks.{IsPutIn}
use Rattle.entry_core.specs.EntryLists.{spot}
use Rattle.block_core.proofs.LiveMaps.{on_ok, put_list, put_over}
use Rattle.block_core.proofs.list_edits.put_own.Goals as goal

pub returns-in-Ok-clause-ok : goal.returns-in-Ok-clause-ok
returns-in-Ok-clause-ok g c =
    let at : spot c.args.entry.dot c.args.items.now ≡ Ok c.in-Ok.place =
    ap (spot c.args.entry.dot) (sym c.as_slice.ensures) ∙ ap (λ d. spot d c.as_slice.result.now) (sym c.dot.ensures)
    ∙ sym c.in-Ok.ensures.place in
    on_ok c.swap_own.result (λ (is : c.swap_own.new.self ≡ slice_set c.args.items.now c.in-Ok.place c.args.entry).
    subst (IsPutIn c.args.live c.args.entry c.args.items.now) (sym is)
    (put_over c.args.live c.args.entry c.args.items.now c.in-Ok.place c.requires.rises c.requires.near at c.requires.new)) c.swap_own.ensures.ok

pub returns-in-Err-clause-ok : goal.returns-in-Err-clause-ok
returns-in-Err-clause-ok g c =
    let at : spot c.args.entry.dot c.args.items.now ≡ Err c.in-Err.place =
    ap (spot c.args.entry.dot) (sym c.as_slice.ensures) ∙ ap (λ d. spot d c.as_slice.result.now) (sym c.dot.ensures)
    ∙ sym c.in-Err.ensures.place in
    on_ok c.put_own.result (λ (is : c.put_own.new.self ≡ insert c.args.items.now c.in-Err.place c.args.entry).
    subst (IsPutIn c.args.live c.args.entry c.args.items.now) (sym is)
    (put_list c.args.live c.args.entry c.args.items.now c.in-Err.place c.requires.rises c.requires.near at)) c.put_own.ensures.ok
