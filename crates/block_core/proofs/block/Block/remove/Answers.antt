use Rattle.std.proofs.Common.{ap, subst, sym, ◌∙◌, ◌≡◌, Ok, arith}
use Rattle.std.specs.FinMap as fin
use Rattle.std.specs.Option.{option_map}
use Rattle.entry_core.specs.Presences.{entry_of}
use Rattle.entry_core.specs.EntryLists.{spot}
use Rattle.entry_core.proofs.EntryLists.{remove_missing}
use Rattle.block_core.specs.Blocks.{IsIn, IsMaskOf, live_map}
use Rattle.block_core.proofs.LiveMaps.{get_dead, got, len_gone, mask_removed, missed, near_of, rest_live, rest_sound}
use Rattle.block_core.proofs.block.Block.remove.Goals as goal

pub returns-then-not-has-clause-entry : goal.returns-then-not-has-clause-entry
returns-then-not-has-clause-entry g c =
    sym (ap (λ b. option_map (entry_of c.args.dot) (fin.get b.map c.args.dot)) (sym c.self.view_is)
    ∙ ap (option_map (entry_of c.args.dot))
    (get_dead c.self.inside.live c.self.inside.items c.args.dot c.self.invariant.rises (sym c.has.ensures ∙ c.if-not-has.true)))

pub returns-then-not-has-clause-map : goal.returns-then-not-has-clause-map
returns-then-not-has-clause-map g c =
    sym (remove_missing c.args.dot c.args.self.now.map (ap (λ b. fin.get b.map c.args.dot) (sym c.self.view_is)
    ∙ get_dead c.self.inside.live c.self.inside.items c.args.dot c.self.invariant.rises (sym c.has.ensures ∙ c.if-not-has.true)))

pub overflow_sub-self : goal.overflow_sub-self
overflow_sub-self g c =
    let gone = len_gone c.self.inside.live c.self.inside.items c.args.dot c.in-Ok.place c.self.invariant.rises
    (ap (spot c.args.dot) (sym c.as_slice.ensures) ∙ sym c.in-Ok.ensures.place) (sym c.has.ensures ∙ c.if-not-has.false) in
    let counted = c.self.invariant.counted in
    omega (arith, gone, counted)

pub invariant_of-self : goal.invariant_of-self
invariant_of-self g c =
    let sound = rest_sound c.self.inside.name c.self.inside.base c.self.inside.items c.take_out-entry.new.items c.in-Ok.place
    c.self.invariant.rises c.self.invariant.within c.take_out-entry.ensures.rest in
    let at : spot c.args.dot c.self.inside.items ≡ Ok c.in-Ok.place = ap (spot c.args.dot) (sym c.as_slice.ensures) ∙ sym c.in-Ok.ensures.place in
    let here : IsIn c.self.inside.name c.self.inside.base c.args.dot =
    record { name = c.requires.name ∙ sym (ap (λ b. b.name) c.self.view_is); base = c.requires.base ∙ sym (ap (λ b. b.base) c.self.view_is) } in
    let map = rest_live c.args.dot c.self.inside.live c.without-self-inside.result c.self.inside.items c.take_out-entry.new.items
    c.in-Ok.place (near_of c.self.inside.name c.self.inside.base c.args.dot c.self.inside.items here c.self.invariant.within)
    c.without-self-inside.ensures c.self.invariant.rises at c.take_out-entry.ensures.rest in
    let rest = ap fin.len map in
    let gone = len_gone c.self.inside.live c.self.inside.items c.args.dot c.in-Ok.place c.self.invariant.rises at (sym c.has.ensures ∙ c.if-not-has.false) in
    let counted = c.self.invariant.counted in
    record {
      rises = sound.0;
      within = sound.1;
      counted = omega (arith, rest, gone, counted);
      small = c.self.invariant.small;
      told =
          subst (IsMaskOf c.self.inside.name c.self.inside.base c.without-self-inside.result) (sym map)
          (mask_removed c.self.inside.name c.self.inside.base c.args.dot c.self.inside.live c.without-self-inside.result
          (live_map c.self.inside.live c.self.inside.items) here c.without-self-inside.ensures c.self.invariant.told);
    }

pub returns-in-Ok-clause-entry : goal.returns-in-Ok-clause-entry
returns-in-Ok-clause-entry g c =
    c.take_out-entry.ensures.entry
    ∙ sym (got c.self.inside.live c.self.inside.items c.args.dot c.self.invariant.rises c.in-Ok.place
    (ap (spot c.args.dot) (sym c.as_slice.ensures) ∙ sym c.in-Ok.ensures.place) (sym c.has.ensures ∙ c.if-not-has.false))
    ∙ ap (λ b. option_map (entry_of c.args.dot) (fin.get b.map c.args.dot)) c.self.view_is

pub returns-in-Ok-clause-map : goal.returns-in-Ok-clause-map
returns-in-Ok-clause-map g c =
    let here : IsIn c.self.inside.name c.self.inside.base c.args.dot =
    record { name = c.requires.name ∙ sym (ap (λ b. b.name) c.self.view_is); base = c.requires.base ∙ sym (ap (λ b. b.base) c.self.view_is) } in
    rest_live c.args.dot c.self.inside.live c.without-self-inside.result c.self.inside.items c.take_out-entry.new.items c.in-Ok.place
    (near_of c.self.inside.name c.self.inside.base c.args.dot c.self.inside.items here c.self.invariant.within)
    c.without-self-inside.ensures c.self.invariant.rises
    (ap (spot c.args.dot) (sym c.as_slice.ensures) ∙ sym c.in-Ok.ensures.place) c.take_out-entry.ensures.rest
    ∙ ap (λ b. fin.remove b.map c.args.dot) c.self.view_is

pub returns-in-Err-clause-entry : goal.returns-in-Err-clause-entry
returns-in-Err-clause-entry g c =
    sym (ap (λ b. option_map (entry_of c.args.dot) (fin.get b.map c.args.dot)) (sym c.self.view_is)
    ∙ ap (option_map (entry_of c.args.dot))
    (missed c.self.inside.live c.self.inside.items c.args.dot c.self.invariant.rises c.in-Err.field-0
    (ap (spot c.args.dot) (sym c.as_slice.ensures) ∙ sym c.in-Err.ensures.place)))

pub returns-in-Err-clause-map : goal.returns-in-Err-clause-map
returns-in-Err-clause-map g c =
    sym (remove_missing c.args.dot c.args.self.now.map (ap (λ b. fin.get b.map c.args.dot) (sym c.self.view_is)
    ∙ missed c.self.inside.live c.self.inside.items c.args.dot c.self.invariant.rises c.in-Err.field-0
    (ap (spot c.args.dot) (sym c.as_slice.ensures) ∙ sym c.in-Err.ensures.place)))
