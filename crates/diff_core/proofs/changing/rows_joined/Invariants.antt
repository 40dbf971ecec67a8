use Rattle.std.proofs.Common.{◌≡◌, ◌++◌, drop}
use Rattle.replica_core.specs.Changes.{plain_change}
use Rattle.replica_core.specs.Moves.{joined_by}
use Rattle.diff_core.specs.ChangedRows.{found_each, rows_shown}
use Rattle.diff_core.proofs.changing.rows_joined.Given as goal

-- the rows so far, and those at the dots that are left
abbrev pub invariant-loop-place : goal.invariant-loop-place
invariant-loop-place g l =
    l.rows.items ++ rows_shown l.after (found_each (drop l.place (joined_by (plain_change l.change) l.after)) l.after.store.entries) ≡
    rows_shown l.after (found_each (joined_by (plain_change l.change) l.after) l.after.store.entries)
