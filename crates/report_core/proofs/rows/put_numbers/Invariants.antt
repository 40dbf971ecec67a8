use Rattle.std.proofs.Common.{◌≡◌, ◌++◌, take, string_bytes}
use Rattle.report_core.specs.Rows.{spaced_numbers}
use Rattle.report_core.proofs.rows.put_numbers.Given as goal

-- the numbers so far
abbrev pub invariant-loop-number : goal.invariant-loop-number
invariant-loop-number g l = string_bytes l.text ≡ string_bytes l.fn.text ++ spaced_numbers (take l.number-index l.numbers)
