use Rattle.std.proofs.Common.{◌≡◌, ◌++◌, take, string_bytes}
use Rattle.report_core.specs.Rows.{undone_lines}
use Rattle.report_core.proofs.rows.put_undone.Given as goal

-- the numbers so far
abbrev pub invariant-loop-number : goal.invariant-loop-number
invariant-loop-number g l = string_bytes l.text ≡ string_bytes l.fn.text ++ undone_lines (take l.number-index l.numbers)
