use Rattle.std.proofs.Common.{◌∙◌, ap, sym}
use Rattle.block_core.specs.Blocks.{Block}
use Rattle.entry_core.specs.Lists.{live_ones}
use Rattle.block_core.specs.Sets.{listed}
use Rattle.block_core.proofs.Walks.{listed_live}
use Rattle.block_core.proofs.block.Block.entries.Goals as goal

pub returns : goal.returns
returns g c =
    ap (λ (b : Block). listed b.map) (sym c.self.view_is)
    ∙ listed_live c.self.inside.live c.self.inside.items c.self.invariant.rises ∙ ap (live_ones c.self.inside.live) (sym c.as_slice.ensures)
