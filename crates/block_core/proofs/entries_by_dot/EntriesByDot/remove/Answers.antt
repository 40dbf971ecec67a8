use Rattle.std.proofs.Common.{◌∙◌, ap, arith, subst, sym}
use Rattle.std.specs.FinMap as fin
use Rattle.std.specs.Option.{option_map}
use Rattle.block_core.specs.EntrySets.{EntrySet}
use Rattle.entry_core.specs.Presences.{entry_of}
use Rattle.entry_core.proofs.EntryLists.{remove_missing}
use Rattle.block_core.specs.Sets.{IsGap, block_key, set_map}
use Rattle.block_core.proofs.SetEdits.{get_gap, held_of, missing_of}
use Rattle.block_core.proofs.entries_by_dot.EntriesByDot.remove.Goals as goal

pub returns-in_default-clause-entry : goal.returns-in_default-clause-entry
returns-in_default-clause-entry g c =
    sym (ap (λ (s : EntrySet). option_map (entry_of c.args.dot) (fin.get s.map c.args.dot)) (sym c.self.view_is)
    ∙ ap (option_map (entry_of c.args.dot))
    (get_gap c.self.inside.blocks.items c.in_default.field-0 c.args.dot c.self.invariant.are.rises c.self.invariant.are.within
    (subst (λ bs. IsGap (block_key c.args.dot) bs c.in_default.field-0) c.deref.ensures.value c.in_default.ensures)))

pub returns-in_default-clause-map : goal.returns-in_default-clause-map
returns-in_default-clause-map g c =
    sym (remove_missing c.args.dot c.args.self.now.map
    (ap (λ (s : EntrySet). fin.get s.map c.args.dot) (sym c.self.view_is)
    ∙ get_gap c.self.inside.blocks.items c.in_default.field-0 c.args.dot c.self.invariant.are.rises c.self.invariant.are.within
    (subst (λ bs. IsGap (block_key c.args.dot) bs c.in_default.field-0) c.deref.ensures.value c.in_default.ensures)))

pub overflow_sub-self : goal.overflow_sub-self
overflow_sub-self g c =
    let one = held_of (set_map c.self.inside.blocks.items) c.args.dot c.in-Some.entry (sym c.take_out.ensures.entry ∙ c.in-Some.is) in
    let counted = c.self.invariant.counted in
    omega (arith, one, counted)

pub invariant_of-self : goal.invariant_of-self
invariant_of-self g c =
    let one = held_of (set_map c.self.inside.blocks.items) c.args.dot c.in-Some.entry (sym c.take_out.ensures.entry ∙ c.in-Some.is) in
    let all = ap fin.len c.take_out.ensures.map in
    let counted = c.self.invariant.counted in
    let few = c.self.invariant.few in
    record { are = c.take_out.ensures.are; counted = omega (arith, one, all, counted); few = omega (arith, few); spared = c.self.invariant.spared }

pub invariant_of-self-in-None : goal.invariant_of-self-in-None
invariant_of-self-in-None g c =
    let none = missing_of (set_map c.self.inside.blocks.items) c.args.dot (sym c.take_out.ensures.entry ∙ c.in-None.is) in
    record {
      are = c.take_out.ensures.are;
      counted =
          c.self.invariant.counted
          ∙ sym (ap fin.len (c.take_out.ensures.map ∙ remove_missing c.args.dot (set_map c.self.inside.blocks.items) none));
      few = c.self.invariant.few;
      spared = c.self.invariant.spared;
    }
