use Rattle.std.proofs.Common.{◌≡◌, ◌++◌, length, map}
use Rattle.payload_core.specs.EntryLists.{pair_of}
use Rattle.diff_core.specs.Rows.{row_of}
use Rattle.diff_core.specs.ChangedRows.{rows_of_name}
use Rattle.diff_core.proofs.changing.rows_of_name.Given as goal

-- the rest is among the entries that are left
abbrev pub invariant-loop-entry : goal.invariant-loop-entry
invariant-loop-entry g l = l.rows.items ++ map (λ e. row_of (pair_of e)) l.walk ≡ rows_of_name l.name l.replica

abbrev pub decreases-loop-entry : goal.decreases-loop-entry
decreases-loop-entry g l = length l.walk
