use Rattle.std.proofs.Common.{◌≡◌, ◌++◌, length}
use Rattle.replica_core.specs.Replicas.{is_online}
use Rattle.diff_core.specs.Online.{shown}
use Rattle.diff_core.proofs.Listed.{rows_ahead}
use Rattle.diff_core.proofs.listing.online_list.Given as goal

-- the rest is among the entries that are left
abbrev pub invariant-loop-entry : goal.invariant-loop-entry
invariant-loop-entry g l = l.rows.items ++ rows_ahead (λ e. is_online l.replica e.dot.name) l.walk ≡ shown l.replica

abbrev pub decreases-loop-entry : goal.decreases-loop-entry
decreases-loop-entry g l = length l.walk
