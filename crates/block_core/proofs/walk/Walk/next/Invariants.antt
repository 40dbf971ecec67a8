use Rattle.std.proofs.Common.{◌≡◌, ◌++◌, filter, length}
use Rattle.block_core.specs.Blocks.{Block}
use Rattle.entry_core.specs.Lists.{live_ones}
use Rattle.block_core.specs.Sets.{listed_in, wants}
use Rattle.block_core.proofs.walk.Walk.next.Given as goal

-- the same are left
abbrev pub invariant-blocks-2 : goal.invariant-blocks-2
invariant-blocks-2 g l = record {
  left :
      live_ones l.initial.self-inside.live l.initial.self-inside.entries.now
      ++ listed_in (filter (λ (b : Block). wants l.initial.self-inside.name b.name) l.initial.self-inside.blocks.now) ≡
      live_ones l.self-inside.live l.self-inside.entries.now
      ++ listed_in (filter (λ (b : Block). wants l.self-inside.name b.name) l.self-inside.blocks.now);
  name : l.self-inside.name ≡ l.initial.self-inside.name;
}

abbrev pub decreases-blocks-2 : goal.decreases-blocks-2
decreases-blocks-2 g l = length l.self-inside.blocks.now
