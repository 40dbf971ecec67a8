use Rattle.std.proofs.Common.{◌∙◌, ap, sym}
use Rattle.std.specs.Option.{option_copied}
use Rattle.block_core.proofs.blocks.search_near.Goals as goal

pub returns-then-is : goal.returns-then-is
returns-then-is g c = record {
  block = c.in-Some.block.now;
  at = sym c.block_at.ensures ∙ ap option_copied c.in-Some.is;
  is = c.is.ensures.0 c.if-is.true;
}
