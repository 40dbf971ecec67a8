use Rattle.std.proofs.Common.{◌≡◌, ◌≤◌, ◌-◌, filter, length, map, take}
use Rattle.std.specs.FinSet as set
use Rattle.dots_core.specs.declared.dot.Dot.{Dot}
use Rattle.entry_core.specs.Presences.{Presence}
use Rattle.block_core.specs.Deliveries.{is_gone}
use Rattle.block_core.specs.Sets.{joined, set_map}
use Rattle.block_core.proofs.deliveries.leaving.Given as goal

-- so far
abbrev pub invariant-loop-at : goal.invariant-loop-at
invariant-loop-at g l = record {
  within : l.at ≤ length l.blocks;
  hint : l.hint ≤ length l.message;
  dots :
      l.leaving.items ≡ map (λ (p : Dot × Presence). p.0)
      (filter (λ (p : Dot × Presence). is_gone (set.contains l.fn.names) l.fn.seen (set_map l.fn.message) p.0) (joined (take l.at l.blocks)));
}

abbrev pub decreases-loop-at : goal.decreases-loop-at
decreases-loop-at g l = length l.blocks - l.at
