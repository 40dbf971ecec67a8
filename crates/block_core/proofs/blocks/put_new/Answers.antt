use Rattle.std.proofs.Common.{◌≡◌, ◌∙◌, ap, arith, cond, insert, refl, subst, sym, Some}
use Rattle.std.specs.FinMap as fin
use Rattle.dots_core.specs.Dots.{dot, dot_cmp}
use Rattle.dots_core.proofs.Order.{dot_total}
use Rattle.entry_core.specs.Presences.{presence_of}
use Rattle.block_core.specs.Sets.{AreBlocks, IsFilled, IsGap, IsWithin, block_key, key, set_map}
use Rattle.block_core.proofs.LiveMaps.{all_insert, len_inserted}
use Rattle.block_core.proofs.SetEdits.{edited_new}
use Rattle.block_core.proofs.SetMaps.{rising_insert}
use Rattle.block_core.proofs.blocks.put_new.Goals as goal

pub returns-in-Ok-clause-map : goal.returns-in-Ok-clause-map
returns-in-Ok-clause-map g c =
    let is : key c.in-Ok.block ≡ block_key c.args.entry.dot =
    ap (λ n. dot n c.in-Ok.block.base) c.in-Ok.ensures.name ∙ ap (dot c.args.entry.dot.name) c.in-Ok.ensures.base in
    ap set_map (c.put.ensures.items ∙ ap (λ bs. insert bs c.args.at c.in-Ok.block) c.make_place.ensures.items)
    ∙ edited_new c.args.entry.dot (λ m. fin.insert m c.args.entry.dot (presence_of c.args.entry))
    (λ t o. cond t (Some (presence_of c.args.entry)) o)
    (λ m q. fin.get-insert dot_total m c.args.entry.dot (presence_of c.args.entry) q) (λ o. refl) c.args.blocks.now.items c.args.at
    c.in-Ok.block c.requires.are.rises c.requires.are.within c.requires.gap is c.told.ensures c.in-Ok.ensures.map

pub returns-in-Ok-clause-are : goal.returns-in-Ok-clause-are
returns-in-Ok-clause-are g c =
    let is : key c.in-Ok.block ≡ block_key c.args.entry.dot =
    ap (λ n. dot n c.in-Ok.block.base) c.in-Ok.ensures.name ∙ ap (dot c.args.entry.dot.name) c.in-Ok.ensures.base in
    let more = len_inserted fin.empty c.args.entry.dot (presence_of c.args.entry) (fin.get-empty dot_cmp c.args.entry.dot) in
    let all = ap fin.len c.in-Ok.ensures.map in
    subst AreBlocks (sym (c.put.ensures.items ∙ ap (λ bs. insert bs c.args.at c.in-Ok.block) c.make_place.ensures.items)) (record {
      rises = rising_insert c.args.blocks.now.items c.args.at c.in-Ok.block c.requires.are.rises
          (subst (λ k. IsGap k c.args.blocks.now.items c.args.at) (sym is) c.requires.gap);
      within = all_insert IsWithin c.args.blocks.now.items c.args.at c.in-Ok.block c.requires.are.within c.told.ensures;
      filled = all_insert IsFilled c.args.blocks.now.items c.args.at c.in-Ok.block c.requires.are.filled (omega (arith, more, all));
    })
