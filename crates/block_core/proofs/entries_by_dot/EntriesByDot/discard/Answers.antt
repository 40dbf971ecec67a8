use Rattle.std.proofs.Common.{◌∙◌, ap, arith, is_some, subst, sym}
use Rattle.std.specs.FinMap as fin
use Rattle.block_core.specs.EntrySets.{EntrySet}
use Rattle.entry_core.proofs.EntryLists.{remove_missing}
use Rattle.block_core.specs.Sets.{IsGap, block_key, set_map}
use Rattle.block_core.proofs.SetEdits.{get_gap, held_is, missing_is}
use Rattle.block_core.proofs.entries_by_dot.EntriesByDot.discard.Goals as goal

pub returns-in_default-clause-was : goal.returns-in_default-clause-was
returns-in_default-clause-was g c =
    sym (ap (λ (s : EntrySet). is_some (fin.get s.map c.args.dot)) (sym c.self.view_is)
    ∙ ap is_some
    (get_gap c.self.inside.blocks.items c.in_default.field-0 c.args.dot c.self.invariant.are.rises c.self.invariant.are.within
    (subst (λ bs. IsGap (block_key c.args.dot) bs c.in_default.field-0) c.deref.ensures.value c.in_default.ensures)))

pub returns-in_default-clause-map : goal.returns-in_default-clause-map
returns-in_default-clause-map g c =
    sym (remove_missing c.args.dot c.args.self.now.map
    (ap (λ (s : EntrySet). fin.get s.map c.args.dot) (sym c.self.view_is)
    ∙ get_gap c.self.inside.blocks.items c.in_default.field-0 c.args.dot c.self.invariant.are.rises c.self.invariant.are.within
    (subst (λ bs. IsGap (block_key c.args.dot) bs c.in_default.field-0) c.deref.ensures.value c.in_default.ensures)))

pub overflow_sub-self : goal.overflow_sub-self
overflow_sub-self g c =
    let one = held_is (set_map c.self.inside.blocks.items) c.args.dot (sym c.let_go.ensures.was ∙ c.if-let_go.true) in
    let counted = c.self.invariant.counted in
    omega (arith, one, counted)

pub invariant_of-self : goal.invariant_of-self
invariant_of-self g c =
    let one = held_is (set_map c.self.inside.blocks.items) c.args.dot (sym c.let_go.ensures.was ∙ c.if-let_go.true) in
    let all = ap fin.len c.let_go.ensures.map in
    let counted = c.self.invariant.counted in
    let few = c.self.invariant.few in
    record { are = c.let_go.ensures.are; counted = omega (arith, one, all, counted); few = omega (arith, few); spared = c.self.invariant.spared }

pub invariant_of-self-else-let_go : goal.invariant_of-self-else-let_go
invariant_of-self-else-let_go g c =
    let none = missing_is (set_map c.self.inside.blocks.items) c.args.dot (sym c.let_go.ensures.was ∙ c.if-let_go.false) in
    record {
      are = c.let_go.ensures.are;
      counted =
          c.self.invariant.counted
          ∙ sym (ap fin.len (c.let_go.ensures.map ∙ remove_missing c.args.dot (set_map c.self.inside.blocks.items) none));
      few = c.self.invariant.few;
      spared = c.self.invariant.spared;
    }
