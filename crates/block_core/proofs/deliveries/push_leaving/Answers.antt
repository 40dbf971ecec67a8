use Rattle.std.proofs.Common.{◌∙◌, ◌++◌, ◌&&◌, ◌%◌, not, is_some, ap, arith, map, sym}
use Rattle.std.proofs.lemmas.List.{append-nil}
use Rattle.std.specs.FinMap as fin
use Rattle.std.specs.FinSet as set
use Rattle.dots_core.specs.declared.dot.Dot.{Dot}
use Rattle.entry_core.specs.Presences.{Presence}
use Rattle.block_core.specs.Blocks.{IsIn}
use Rattle.block_core.specs.Deliveries.{is_gone}
use Rattle.entry_core.specs.Masks.{is_live}
use Rattle.block_core.specs.Sets.{set_map}
use Rattle.block_core.proofs.MaskedEntries.{filter_none, filter_same}
use Rattle.block_core.proofs.deliveries.push_leaving.Goals as goal

pub returns-then-not-has-clause-dots : goal.returns-then-not-has-clause-dots
returns-then-not-has-clause-dots g c =
    let there = set_map c.args.message.now in
    sym (append-nil c.args.dots.now.items)
    ∙ ap (λ ps. c.args.dots.now.items ++ map (λ (p : Dot × Presence). p.0) ps)
    (sym (filter_none c.args.block.now.name c.args.block.now.base (is_gone (set.contains c.args.names) c.args.seen.now there)
    (λ d here. ap (λ t. t && (set.contains c.args.seen.now d && not (is_some (fin.get there d))))
    (ap (set.contains c.args.names) (here.name ∙ sym c.name-name.ensures) ∙ sym c.has.ensures ∙ c.if-not-has.true)) (fin.entries c.args.block.now.map) c.told.ensures))

pub returns-clause-dots : goal.returns-clause-dots
returns-clause-dots g c =
    let there = set_map c.args.message.now in
    c.in_ok-push_dots.ensures ∙ ap (λ ps. c.args.dots.now.items ++ map (λ (p : Dot × Presence). p.0) ps)
    (filter_same c.args.block.now.name c.args.block.now.base (is_live c.both.result) (is_gone (set.contains c.args.names) c.args.seen.now there)
    (λ d here.
    let inside : IsIn c.name-name.result c.base-base.result d = record { name = here.name ∙ sym c.name-name.ensures; base = here.base ∙ sym c.base-base.ensures.base } in
    c.both.ensures (d.clock % 64)
    ∙ ap (λ t. t && is_live c.others.result d) (c.bits_of-old.ensures d inside.name inside.base)
    ∙ ap (λ t. set.contains c.args.seen.now d && t)
    (c.others.ensures (d.clock % 64) (omega arith) ∙ ap not (c.live_bits-there.ensures.mask d inside))
    ∙ ap (λ t. t && (set.contains c.args.seen.now d && not (is_some (fin.get there d))))
    (sym (ap (set.contains c.args.names) (here.name ∙ sym c.name-name.ensures) ∙ sym c.has.ensures ∙ c.if-not-has.false)))
    (fin.entries c.args.block.now.map) c.told.ensures)
