use Rattle.std.proofs.Common.{◌≡◌, ◌∙◌, ◌++◌, ◌&&◌, ◌%◌, not, ap, arith, subst, sym}
use Rattle.std.proofs.lemmas.List.{append-nil}
use Rattle.std.specs.FinMap as fin
use Rattle.std.specs.FinSet as set
use Rattle.std.specs.Result.{OnOk}
use Rattle.entry_core.specs.EntryLists.{pairs}
use Rattle.block_core.specs.Blocks.{IsIn}
use Rattle.block_core.specs.Deliveries.{is_new}
use Rattle.entry_core.specs.Masks.{is_live}
use Rattle.block_core.proofs.MaskedEntries.{filter_none, filter_same}
use Rattle.block_core.proofs.deliveries.push_joining.Goals as goal

pub returns-then-not-has : goal.returns-then-not-has
returns-then-not-has g c =
    sym (append-nil (pairs c.args.list.now.items))
    ∙ ap (λ ps. pairs c.args.list.now.items ++ ps)
    (sym (filter_none c.args.block.now.name c.args.block.now.base (is_new (set.contains c.args.names) c.args.seen.now)
    (λ d here. ap (λ t. t && not (set.contains c.args.seen.now d))
    (ap (set.contains c.args.names) (here.name ∙ sym c.name.ensures) ∙ sym c.has.ensures ∙ c.if-not-has.true)) (fin.entries c.args.block.now.map) c.told.ensures))

pub returns : goal.returns
returns g c =
    subst (λ ps. OnOk c.push_copies.result (pairs c.push_copies.new.list.items ≡ pairs c.args.list.now.items ++ ps))
    (filter_same c.args.block.now.name c.args.block.now.base (is_live c.others.result) (is_new (set.contains c.args.names) c.args.seen.now)
    (λ d here.
    let inside : IsIn c.name-2.result c.base.result d = record { name = here.name ∙ sym c.name-2.ensures; base = here.base ∙ sym c.base.ensures.base } in
    c.others.ensures (d.clock % 64) (omega arith) ∙ ap not (c.bits_of-old.ensures d inside.name inside.base)
    ∙ ap (λ t. t && not (set.contains c.args.seen.now d))
    (sym (ap (set.contains c.args.names) (here.name ∙ sym c.name.ensures) ∙ sym c.has.ensures ∙ c.if-not-has.false)))
    (fin.entries c.args.block.now.map) c.told.ensures) c.push_copies.ensures
