use Rattle.std.proofs.Common.{◌≡◌, ◌∙◌, Err, Ok, ap, arith, slice_get, subst, sym}
use Rattle.block_core.specs.Blocks.{IsPutIn}
use Rattle.entry_core.specs.EntryLists.{spot}
use Rattle.entry_core.proofs.EntryLists.{found_at, missing_at}
use Rattle.block_core.proofs.LiveMaps.{few_without, get_at_insert, get_at_set, put_list, put_over}
use Rattle.block_core.proofs.list_edits.put_among.Goals as goal

pub returns-in-Ok-clause-ok : goal.returns-in-Ok-clause-ok
returns-in-Ok-clause-ok g c =
    let at : spot c.args.entry.dot c.args.list.now.items ≡ Ok c.in-Ok.place =
    ap (spot c.args.entry.dot) (sym c.deref.ensures.value) ∙ ap (λ d. spot d c.deref.result.now) (sym c.dot.ensures)
    ∙ sym c.in-Ok.ensures.place in
    subst (IsPutIn c.args.live c.args.entry c.args.list.now.items) (sym c.set.ensures)
    (put_over c.args.live c.args.entry c.args.list.now.items c.in-Ok.place c.requires.rises c.requires.near at c.requires.new)

pub returns-in-Ok-clause-place : goal.returns-in-Ok-clause-place
returns-in-Ok-clause-place g c =
    let at : spot c.args.entry.dot c.args.list.now.items ≡ Ok c.in-Ok.place =
    ap (spot c.args.entry.dot) (sym c.deref.ensures.value) ∙ ap (λ d. spot d c.deref.result.now) (sym c.dot.ensures)
    ∙ sym c.in-Ok.ensures.place in
    get_at_set c.args.list.now.items c.in-Ok.place c.args.entry (found_at c.args.entry.dot c.args.list.now.items c.in-Ok.place at).0
    ∙ ap (λ es. slice_get es c.in-Ok.place) (sym c.set.ensures)

pub returns-in-Ok-put-clause-ok : goal.returns-in-Ok-put-clause-ok
returns-in-Ok-put-clause-ok g c =
    let at : spot c.args.entry.dot c.args.list.now.items ≡ Err c.in-Err.place =
    ap (spot c.args.entry.dot) (sym c.deref.ensures.value) ∙ ap (λ d. spot d c.deref.result.now) (sym c.dot.ensures)
    ∙ sym c.in-Err.ensures.place in
    subst (IsPutIn c.args.live c.args.entry c.args.list.now.items) (sym c.in-Ok-put.ensures.ok)
    (put_list c.args.live c.args.entry c.args.list.now.items c.in-Err.place c.requires.rises c.requires.near at)

pub returns-in-Ok-put-clause-place : goal.returns-in-Ok-put-clause-place
returns-in-Ok-put-clause-place g c =
    let at : spot c.args.entry.dot c.args.list.now.items ≡ Err c.in-Err.place =
    ap (spot c.args.entry.dot) (sym c.deref.ensures.value) ∙ ap (λ d. spot d c.deref.result.now) (sym c.dot.ensures)
    ∙ sym c.in-Err.ensures.place in
    get_at_insert c.args.list.now.items c.in-Err.place c.args.entry
    (missing_at c.args.entry.dot c.args.list.now.items c.in-Err.place c.requires.rises at).0
    ∙ ap (λ es. slice_get es c.in-Err.place) (sym c.in-Ok-put.ensures.ok)

pub returns-in-Err-put-clause-succeeds : goal.returns-in-Err-put-clause-succeeds
returns-in-Err-put-clause-succeeds g c =
    let at : spot c.args.entry.dot c.args.list.now.items ≡ Err c.in-Err.place =
    ap (spot c.args.entry.dot) (sym c.deref.ensures.value) ∙ ap (λ d. spot d c.deref.result.now) (sym c.dot.ensures)
    ∙ sym c.in-Err.ensures.place in
    let few = few_without c.args.entry c.args.list.now.items c.in-Err.place c.requires.near c.requires.rises at in
    let len = c.args.list.now.ok.0 in
    λ room. c.in-Err-put.ensures.succeeds (omega (arith, few, len, room))
