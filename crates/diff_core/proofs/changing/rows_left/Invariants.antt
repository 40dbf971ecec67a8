use Rattle.std.proofs.Common.{◌≡◌, ◌++◌, drop}
use Rattle.payload_core.specs.EntryLists.{pairs}
use Rattle.replica_core.specs.Changes.{plain_change}
use Rattle.replica_core.specs.Moves.{left_by}
use Rattle.diff_core.specs.ChangedRows.{rows_shown}
use Rattle.diff_core.proofs.changing.rows_left.Given as goal

-- the rows so far, and those of the entries that are left
abbrev pub invariant-loop-place : goal.invariant-loop-place
invariant-loop-place g l =
    l.rows.items ++ rows_shown l.after (pairs (drop l.place (left_by (plain_change l.change)))) ≡
    rows_shown l.after (pairs (left_by (plain_change l.change)))
