use Rattle.std.proofs.Common.{◌≡◌, ◌++◌, take, string_bytes}
use Rattle.report_core.specs.Rows.{row_lines}
use Rattle.report_core.proofs.rows.put_each.Given as goal

-- the rows so far
abbrev pub invariant-loop-row : goal.invariant-loop-row
invariant-loop-row g l =
    string_bytes l.text ++ l.line.bytes ≡ (string_bytes l.fn.text ++ l.fn.line.bytes) ++ row_lines l.sign l.names (take l.row-index l.rows)
