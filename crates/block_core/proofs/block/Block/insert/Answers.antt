use Rattle.std.proofs.Common.{◌∙◌, ap, arith, subst, sym}
use Rattle.std.specs.FinMap as fin
use Rattle.entry_core.specs.Presences.{presence_of}
use Rattle.block_core.specs.Blocks.{IsIn, IsMaskOf, live_map}
use Rattle.entry_core.specs.Masks.{IsWith}
use Rattle.block_core.proofs.LiveMaps.{few_live, in_of_near, len_inserted, mask_inserted}
use Rattle.block_core.proofs.block.Block.insert.Goals as goal

pub overflow_add-self : goal.overflow_add-self
overflow_add-self g c =
    let most = few_live c.self.inside.name c.self.inside.base c.self.inside.live c.self.inside.items c.self.invariant.within c.self.invariant.rises in
    let counted = c.self.invariant.counted in
    omega (arith, most, counted)

pub invariant_of-self : goal.invariant_of-self
invariant_of-self g c =
    let with = subst (λ k. IsWith c.with-self-inside.result c.self.inside.live k) (ap (λ d. d.clock) c.dot-clock.ensures) c.with-self-inside.ensures in
    let map = c.in-Ok.ensures.ok.map c.with-self-inside.result with in
    let more = ap fin.len map in
    let here : IsIn c.self.inside.name c.self.inside.base c.args.entry.dot =
    record { name = c.requires.within.name ∙ sym (ap (λ b. b.name) c.self.view_is); base = c.requires.within.base ∙ sym (ap (λ b. b.base) c.self.view_is) } in
    let one = len_inserted (live_map c.self.inside.live c.self.inside.items) c.args.entry.dot (presence_of c.args.entry)
    (ap (λ b. fin.get b.map c.args.entry.dot) c.self.view_is ∙ c.requires.new) in
    let counted = c.self.invariant.counted in record {
      rises = c.in-Ok.ensures.ok.rises;
      within = in_of_near c.self.inside.name c.self.inside.base c.args.entry.dot c.put_in.new.items
          here c.in-Ok.ensures.ok.near;
      counted = omega (arith, more, one, counted);
      small = c.self.invariant.small;
      told =
          subst (IsMaskOf c.self.inside.name c.self.inside.base c.with-self-inside.result) (sym map)
          (mask_inserted c.self.inside.name c.self.inside.base c.args.entry.dot (presence_of c.args.entry) c.self.inside.live
          c.with-self-inside.result (live_map c.self.inside.live c.self.inside.items) here with c.self.invariant.told);
    }
