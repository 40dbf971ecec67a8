use Rattle.std.proofs.Common.{ap, arith, subst, sym, ◌∙◌, ◌/◌}
use Rattle.std.specs.FinMap as fin
use Rattle.dots_core.specs.declared.dot.Dot.{Dot}
use Rattle.entry_core.specs.EntryLists.{Rises}
use Rattle.block_core.specs.Blocks.{AreIn, IsIn, IsMaskOf, live_map}
use Rattle.entry_core.specs.Masks.{IsWith}
use Rattle.block_core.proofs.LiveMaps.{len_one, mask_one, one_live}
use Rattle.entry_core.specs.Presences.{presence_of}
use Rattle.block_core.proofs.block.Block.of.Goals as goal

pub invariant_of-result : goal.invariant_of-result
invariant_of-result g c =
    let one = c.in-Ok.ensures.ok in
    let with = subst (λ (d : Dot). IsWith c.with.result 0 d.clock) c.dot-dot.ensures c.with.ensures in
    let here : IsIn c.dot-dot.result.name (c.dot-dot.result.clock / 64) c.args.entry.dot =
    record { name = sym (ap (λ (d : Dot). d.name) c.dot-dot.ensures); base = sym (ap (λ (d : Dot). d.clock / 64) c.dot-dot.ensures) } in
    record {
      rises = subst Rises (sym one) tt;
      within = subst (AreIn c.dot-dot.result.name (c.dot-dot.result.clock / 64)) (sym one) (here, tt);
      counted = sym (ap (λ es. fin.len (live_map c.with.result es)) one ∙ len_one c.with.result c.args.entry with);
      small = omega arith;
      told =
          subst (IsMaskOf c.dot-dot.result.name (c.dot-dot.result.clock / 64) c.with.result)
          (sym (ap (live_map c.with.result) one ∙ one_live c.with.result c.args.entry with))
          (mask_one c.dot-dot.result.name (c.dot-dot.result.clock / 64) c.with.result c.args.entry.dot (presence_of c.args.entry) here with);
    }

pub returns-in-Ok-clause-map : goal.returns-in-Ok-clause-map
returns-in-Ok-clause-map g c =
    ap (live_map c.with.result) c.in-Ok.ensures.ok
    ∙ one_live c.with.result c.args.entry (subst (λ (d : Dot). IsWith c.with.result 0 d.clock) c.dot-dot.ensures c.with.ensures)
