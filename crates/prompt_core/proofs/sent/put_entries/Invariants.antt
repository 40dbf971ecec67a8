use Rattle.std.proofs.Common.{◌≡◌, ◌++◌, codes, length, string_bytes}
use Rattle.report_core.specs.Rows.{row_lines}
use Rattle.prompt_core.specs.Sent.{rows_of}
use Rattle.prompt_core.proofs.SentText.{rows_ahead}
use Rattle.prompt_core.proofs.sent.put_entries.Given as goal

-- the rows of those that are left are to come
abbrev pub invariant-loop-entry : goal.invariant-loop-entry
invariant-loop-entry g l =
    string_bytes l.text ++ row_lines (codes "= ") l.names (rows_ahead l.walk) ≡
    string_bytes l.fn.text ++ row_lines (codes "= ") l.names (rows_of l.entries.map)

abbrev pub decreases-loop-entry : goal.decreases-loop-entry
decreases-loop-entry g l = length l.walk
