use Rattle.std.proofs.Common.{◌==◌, ◌∙◌, ap, filter}
use Rattle.block_core.specs.Blocks.{Block}
use Rattle.block_core.specs.EntrySets.{EntrySet}
use Rattle.entry_core.specs.Presences.{entries_of_names}
use Rattle.block_core.specs.Sets.{listed, listed_in}
use Rattle.block_core.proofs.Walks.{listed_name}
use Rattle.block_core.proofs.entries_by_dot.EntriesByDot.walk_of.Goals as goal

pub returns : goal.returns
returns g c =
    c.over.ensures ∙ ap (λ bs. listed_in (filter (λ (b : Block). b.name == c.args.name) bs)) c.deref.ensures.value
    ∙ listed_name c.args.name c.self.inside.blocks.items c.self.invariant.are
    ∙ ap (λ (s : EntrySet). listed (entries_of_names (λ n. n == c.args.name) s.map)) c.self.view_is
