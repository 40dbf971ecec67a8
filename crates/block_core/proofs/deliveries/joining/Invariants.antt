use Rattle.std.proofs.Common.{◌≡◌, ◌≤◌, ◌-◌, filter, length, take}
use Rattle.std.specs.FinSet as set
use Rattle.dots_core.specs.declared.dot.Dot.{Dot}
use Rattle.entry_core.specs.EntryLists.{pairs}
use Rattle.entry_core.specs.Presences.{Presence}
use Rattle.block_core.specs.Deliveries.{is_new}
use Rattle.block_core.specs.Sets.{joined}
use Rattle.block_core.proofs.deliveries.joining.Given as goal

-- so far
abbrev pub invariant-loop-at : goal.invariant-loop-at
invariant-loop-at g l = record {
  within : l.at ≤ length l.message;
  pairs : pairs l.joining.items ≡ filter (λ (p : Dot × Presence). is_new (set.contains l.fn.names) l.fn.seen p.0) (joined (take l.at l.message));
}

abbrev pub decreases-loop-at : goal.decreases-loop-at
decreases-loop-at g l = length l.message - l.at
