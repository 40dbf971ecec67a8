use Rattle.std.proofs.Common.{◌∙◌, ap, filter, true}
use Rattle.block_core.specs.Blocks.{Block}
use Rattle.block_core.specs.EntrySets.{EntrySet}
use Rattle.block_core.specs.Sets.{listed, listed_in}
use Rattle.block_core.proofs.Walks.{listed_all}
use Rattle.block_core.proofs.entries_by_dot.EntriesByDot.walk.Goals as goal

pub returns : goal.returns
returns g c =
    c.over.ensures ∙ ap (λ bs. listed_in (filter (λ (b : Block). true) bs)) c.deref.ensures.value
    ∙ listed_all c.self.inside.blocks.items c.self.invariant.are
    ∙ ap (λ (s : EntrySet). listed s.map) c.self.view_is
