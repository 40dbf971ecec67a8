use Rattle.std.proofs.Common.{◌∙◌, ◌<◌, ap, arith, length, subst, sym}
use Rattle.block_core.specs.Sets.{AreBlocks, IsFilled, IsWithin, joined}
use Rattle.block_core.proofs.LiveMaps.{all_remove}
use Rattle.block_core.proofs.SetEdits.{all_with, at_read}
use Rattle.block_core.proofs.SetMaps.{joined_without, rising_remove}
use Rattle.block_core.proofs.blocks.drop_empty.Goals as goal

pub returns-then-len-eq0-clause-are : goal.returns-then-len-eq0-clause-are
returns-then-len-eq0-clause-are g c =
    subst AreBlocks (sym c.remove.ensures.items) (record {
      rises = rising_remove c.args.blocks.now.items c.args.at c.requires.rises;
      within = all_remove IsWithin c.args.blocks.now.items c.args.at c.requires.within;
      filled = c.requires.filled;
    })

pub returns-then-len-eq0-clause-joined : goal.returns-then-len-eq0-clause-joined
returns-then-len-eq0-clause-joined g c =
    let here : c.args.at < length c.args.blocks.now.items = (let one = c.requires.here in let len = c.args.blocks.now.ok.0 in omega (arith, one, len)) in
    ap joined c.remove.ensures.items
    ∙ joined_without c.args.blocks.now.items c.args.at c.index.result.now
    (at_read c.args.blocks.now.items c.args.at c.index.result.now here c.index.ensures) (sym c.len.ensures.len ∙ c.if-len-eq0.true)

pub returns-else-len-eq0-clause-are : goal.returns-else-len-eq0-clause-are
returns-else-len-eq0-clause-are g c =
    let here : c.args.at < length c.args.blocks.now.items = (let one = c.requires.here in let len = c.args.blocks.now.ok.0 in omega (arith, one, len)) in
    let some = c.if-len-eq0.false in
    let many = c.len.ensures.len in record {
      rises = c.requires.rises;
      within = c.requires.within;
      filled = all_with IsFilled c.args.blocks.now.items c.args.at c.index.result.now c.requires.filled
          (at_read c.args.blocks.now.items c.args.at c.index.result.now here c.index.ensures) (omega (arith, some, many));
    }
