use Rattle.std.proofs.Common.{◌≡◌, ◌++◌, drop, string_bytes}
use Rattle.report_core.specs.Dots.{name_lines}
use Rattle.report_core.proofs.dots_text.put_names.Given as goal

-- the names so far, and then those that are left
abbrev pub invariant-loop-number : goal.invariant-loop-number
invariant-loop-number g l =
    string_bytes l.text ++ name_lines l.replica l.number (drop l.number l.names) ≡ string_bytes l.fn.text ++ name_lines l.replica 0 l.names
