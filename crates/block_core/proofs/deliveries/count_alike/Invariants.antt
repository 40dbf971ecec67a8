use Rattle.std.proofs.Common.{◌+◌, ◌-◌, ◌≤◌, length}
use Rattle.block_core.specs.Deliveries.{AreAlike}
use Rattle.block_core.proofs.deliveries.count_alike.Given as goal

-- so far
abbrev pub invariant-loop-count : goal.invariant-loop-count
invariant-loop-count g l = record {
  within : l.at + l.count ≤ length l.blocks;
  there : l.hint + l.count ≤ length l.message;
  alike : AreAlike l.message l.blocks l.at (l.at + l.count);
}

abbrev pub decreases-loop-count : goal.decreases-loop-count
decreases-loop-count g l = length l.blocks - l.count
