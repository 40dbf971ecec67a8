use Rattle.std.proofs.Common.{◌≡◌, ◌≤◌, drop, length}
use Rattle.std.specs.FinMap as fin
use Rattle.block_core.specs.Sets.{listed}
use Rattle.block_core.proofs.Walks.{AreBelow}
use Rattle.block_core.proofs.entries_by_dot.EntriesByDot.first_from.Given as goal

-- those before the place are below
abbrev pub invariant-loop-entry : goal.invariant-loop-entry
invariant-loop-entry g l = record {
  left : l.walk ≡ drop l.place (listed l.self.map);
  below : AreBelow l.dot (fin.entries l.self.map) l.place;
  within : l.place ≤ length (fin.entries l.self.map);
}

abbrev pub decreases-loop-entry : goal.decreases-loop-entry
decreases-loop-entry g l = length l.walk
