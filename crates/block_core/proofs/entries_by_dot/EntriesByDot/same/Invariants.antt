use Rattle.std.proofs.Common.{◌≡◌, length}
use Rattle.std.specs.Prelude.{◌↔◌}
use Rattle.block_core.specs.Sets.{listed}
use Rattle.block_core.proofs.entries_by_dot.EntriesByDot.same.Given as goal

-- what is left decides
abbrev pub invariant-loop-one : goal.invariant-loop-one
invariant-loop-one g l = (listed l.self.map ≡ listed l.other.map) ↔ (l.ones ≡ l.others)

abbrev pub decreases-loop-one : goal.decreases-loop-one
decreases-loop-one g l = length l.ones
