use Rattle.std.proofs.Common.{◌≡◌, ◌∙◌, ap, arith, cond, refl, sym, Some, None}
use Rattle.std.specs.FinMap as fin
use Rattle.dots_core.specs.Dots.{dot}
use Rattle.dots_core.proofs.Order.{dot_total}
use Rattle.entry_core.specs.Presences.{presence_of}
use Rattle.block_core.specs.Blocks.{Block}
use Rattle.block_core.specs.Sets.{IsFilled, IsWithin, key}
use Rattle.block_core.proofs.LiveMaps.{len_inserted}
use Rattle.block_core.proofs.SetEdits.{edited_at, get_at, read_is}
use Rattle.block_core.proofs.SetMaps.{all_set, rising_set}
use Rattle.block_core.proofs.blocks.put_into.Goals as goal

pub insert-requires-clause-new : goal.insert-requires-clause-new
insert-requires-clause-new g c =
    let here = c.requires.at in
    ap (λ (b : Block). fin.get b.map c.args.entry.dot)
    (read_is c.args.blocks.now.items c.args.at here.block c.index_mut-block.result.now here.at c.index_mut-block.ensures.value)
    ∙ sym (get_at c.args.blocks.now.items c.args.at here.block c.args.entry.dot c.requires.are.rises c.requires.are.within here.at here.is)
    ∙ c.requires.new

pub returns-in-Ok-clause-map : goal.returns-in-Ok-clause-map
returns-in-Ok-clause-map g c =
    let here = c.requires.at in
    let was : c.index_mut-block.result.now ≡ here.block =
    read_is c.args.blocks.now.items c.args.at here.block c.index_mut-block.result.now here.at c.index_mut-block.ensures.value in
    let kept : key c.insert.new.self ≡ key here.block =
    ap (λ n. dot n c.insert.new.self.base) c.in-Ok.ensures.name ∙ ap (dot c.index_mut-block.result.now.name) c.in-Ok.ensures.base ∙ ap key was in
    edited_at c.args.entry.dot (λ m. fin.insert m c.args.entry.dot (presence_of c.args.entry)) (λ t o. cond t (Some (presence_of c.args.entry)) o)
    (λ m q. fin.get-insert dot_total m c.args.entry.dot (presence_of c.args.entry) q) (λ o. refl) c.args.blocks.now.items c.args.at here.block
    c.insert.new.self c.requires.are.rises c.requires.are.within here.at here.is kept c.told.ensures
    (c.in-Ok.ensures.map ∙ ap (λ (b : Block). fin.insert b.map c.args.entry.dot (presence_of c.args.entry)) was)

pub returns-in-Ok-clause-are : goal.returns-in-Ok-clause-are
returns-in-Ok-clause-are g c =
    let here = c.requires.at in
    let was : c.index_mut-block.result.now ≡ here.block =
    read_is c.args.blocks.now.items c.args.at here.block c.index_mut-block.result.now here.at c.index_mut-block.ensures.value in
    let kept : key c.insert.new.self ≡ key here.block =
    ap (λ n. dot n c.insert.new.self.base) c.in-Ok.ensures.name ∙ ap (dot c.index_mut-block.result.now.name) c.in-Ok.ensures.base ∙ ap key was in
    let none : fin.get c.index_mut-block.result.now.map c.args.entry.dot ≡ None =
    ap (λ (b : Block). fin.get b.map c.args.entry.dot) was
    ∙ sym (get_at c.args.blocks.now.items c.args.at here.block c.args.entry.dot c.requires.are.rises c.requires.are.within here.at here.is)
    ∙ c.requires.new in
    let more = len_inserted c.index_mut-block.result.now.map c.args.entry.dot (presence_of c.args.entry) none in
    let all = ap fin.len c.in-Ok.ensures.map in record {
      rises = rising_set c.args.blocks.now.items c.args.at here.block c.insert.new.self here.at kept c.requires.are.rises;
      within = all_set IsWithin c.args.blocks.now.items c.args.at c.insert.new.self c.requires.are.within c.told.ensures;
      filled = all_set IsFilled c.args.blocks.now.items c.args.at c.insert.new.self c.requires.are.filled (omega (arith, more, all));
    }
