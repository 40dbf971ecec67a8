use Rattle.std.proofs.Common.{◌≡◌, ◌∙◌, ap, arith, cond, refl, subst, sym, None}
use Rattle.std.specs.FinMap as fin
use Rattle.std.specs.List.{AllByRecursion}
use Rattle.std.specs.Option.{option_map}
use Rattle.dots_core.specs.Dots.{dot}
use Rattle.dots_core.proofs.Order.{dot_total}
use Rattle.entry_core.specs.Presences.{entry_of}
use Rattle.block_core.specs.Blocks.{Block}
use Rattle.block_core.specs.Sets.{IsFilled, key}
use Rattle.block_core.proofs.LiveMaps.{all_remove}
use Rattle.block_core.proofs.SetEdits.{edited_at, get_at, get_here, read_is, remove_set}
use Rattle.block_core.proofs.SetMaps.{rising_set}
use Rattle.block_core.proofs.blocks.take_handle.Goals as goal

pub drop_empty-requires-clause-rises : goal.drop_empty-requires-clause-rises
drop_empty-requires-clause-rises g c =
    let here = c.requires.at in
    let was : c.index_mut-block.result.now ≡ here.block =
    read_is c.args.blocks.now.items c.args.at here.block c.index_mut-block.result.now here.at c.index_mut-block.ensures.value in
    let kept : key c.take.new.self ≡ key here.block =
    ap (λ n. dot n c.take.new.self.base) c.in-Ok.ensures.name ∙ ap (dot c.index_mut-block.result.now.name) c.in-Ok.ensures.base
    ∙ ap key was in
    rising_set c.args.blocks.now.items c.args.at here.block c.take.new.self here.at kept c.requires.are.rises

pub drop_empty-requires-clause-filled : goal.drop_empty-requires-clause-filled
drop_empty-requires-clause-filled g c =
    subst (AllByRecursion IsFilled) (sym (remove_set c.args.blocks.now.items c.args.at c.take.new.self))
    (all_remove IsFilled c.args.blocks.now.items c.args.at c.requires.are.filled)

pub drop_empty-requires-clause-here : goal.drop_empty-requires-clause-here
drop_empty-requires-clause-here g c =
    let here = get_here c.args.blocks.now.items c.args.at c.requires.at.block c.requires.at.at in
    let len = c.args.blocks.now.ok.0 in
    omega (arith, here, len)

pub returns-in-Ok-clause-entry : goal.returns-in-Ok-clause-entry
returns-in-Ok-clause-entry g c =
    let here = c.requires.at in
    c.in-Ok.ensures.entry
    ∙ ap (λ (b : Block). option_map (entry_of c.args.dot) (fin.get b.map c.args.dot))
    (read_is c.args.blocks.now.items c.args.at here.block c.index_mut-block.result.now here.at c.index_mut-block.ensures.value)
    ∙ ap (option_map (entry_of c.args.dot))
    (sym (get_at c.args.blocks.now.items c.args.at here.block c.args.dot c.requires.are.rises c.requires.are.within here.at here.is))

pub returns-in-Ok-clause-map : goal.returns-in-Ok-clause-map
returns-in-Ok-clause-map g c =
    let here = c.requires.at in
    let was : c.index_mut-block.result.now ≡ here.block =
    read_is c.args.blocks.now.items c.args.at here.block c.index_mut-block.result.now here.at c.index_mut-block.ensures.value in
    let kept : key c.take.new.self ≡ key here.block =
    ap (λ n. dot n c.take.new.self.base) c.in-Ok.ensures.name ∙ ap (dot c.index_mut-block.result.now.name) c.in-Ok.ensures.base
    ∙ ap key was in
    ap fin.from_sorted c.drop_empty.ensures.joined
    ∙ edited_at c.args.dot (λ m. fin.remove m c.args.dot) (λ t o. cond t None o) (λ m q. fin.get-remove dot_total m c.args.dot q) (λ o. refl)
    c.args.blocks.now.items c.args.at here.block c.take.new.self c.requires.are.rises c.requires.are.within here.at here.is kept
    c.told.ensures (c.in-Ok.ensures.map ∙ ap (λ (b : Block). fin.remove b.map c.args.dot) was)
