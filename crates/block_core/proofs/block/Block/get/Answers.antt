use Rattle.std.proofs.Common.{ap, slice_get, sym, ◌∙◌}
use Rattle.std.specs.FinMap as fin
use Rattle.std.specs.Option.{option_map}
use Rattle.entry_core.specs.Presences.{entry_of}
use Rattle.entry_core.specs.EntryLists.{spot}
use Rattle.block_core.proofs.LiveMaps.{get_dead, got, missed}
use Rattle.block_core.proofs.block.Block.get.Goals as goal

pub returns-then-not-has : goal.returns-then-not-has
returns-then-not-has g c =
    sym (ap (λ b. option_map (entry_of c.args.dot) (fin.get b.map c.args.dot)) (sym c.self.view_is)
    ∙ ap (option_map (entry_of c.args.dot))
    (get_dead c.self.inside.live c.self.inside.items c.args.dot c.self.invariant.rises (sym c.has.ensures ∙ c.if-not-has.true)))

pub returns-in-Ok : goal.returns-in-Ok
returns-in-Ok g c =
    c.handle_at.ensures ∙ ap (λ es. slice_get es c.in-Ok.place) c.as_slice-entries.ensures
    ∙ sym (got c.self.inside.live c.self.inside.items c.args.dot c.self.invariant.rises c.in-Ok.place
    (ap (spot c.args.dot) (sym c.as_slice-entries.ensures) ∙ sym c.in-Ok.ensures.place) (sym c.has.ensures ∙ c.if-not-has.false))
    ∙ ap (λ b. option_map (entry_of c.args.dot) (fin.get b.map c.args.dot)) c.self.view_is

pub returns-in-Err : goal.returns-in-Err
returns-in-Err g c =
    sym (ap (λ b. option_map (entry_of c.args.dot) (fin.get b.map c.args.dot)) (sym c.self.view_is)
    ∙ ap (option_map (entry_of c.args.dot))
    (missed c.self.inside.live c.self.inside.items c.args.dot c.self.invariant.rises c.in-Err.field-0
    (ap (spot c.args.dot) (sym c.as_slice-entries.ensures) ∙ sym c.in-Err.ensures.place)))
