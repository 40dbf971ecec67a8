use Rattle.std.proofs.Common.{◌∙◌, ◌-◌, arith, length, sym}
use Rattle.dots_core.specs.Dots.{dot}
use Rattle.block_core.proofs.SetEdits.{at_read, gap_end}
use Rattle.block_core.proofs.blocks.search.Goals as goal

pub returns-then-is_before : goal.returns-then-is_before
returns-then-is_before g c =
    let some = c.if-len-eq0.false in
    gap_end (dot c.args.name c.args.base) c.args.blocks.now (length c.args.blocks.now - 1) c.index-blocks-len.result c.requires
    (omega (arith, some))
    (at_read c.args.blocks.now (length c.args.blocks.now - 1) c.index-blocks-len.result (omega (arith, some)) c.index-blocks-len.is)
    (sym c.is_before.ensures ∙ c.if-is_before.true)

pub returns-then-is : goal.returns-then-is
returns-then-is g c =
    let some = c.if-len-eq0.false in record {
      block = c.index-blocks-len.result;
      at = at_read c.args.blocks.now (length c.args.blocks.now - 1) c.index-blocks-len.result (omega (arith, some)) c.index-blocks-len.is;
      is = c.is.ensures.0 c.if-is.true;
    }
