use Rattle.std.proofs.Common.{◌≡◌, ◌++◌, drop, string_bytes}
use Rattle.import_report.specs.Scripts.{spaced_names}
use Rattle.import_report.proofs.script.put_names.Given as goal

-- the names so far, and then those that are left
abbrev pub invariant-loop-number : goal.invariant-loop-number
invariant-loop-number g l =
    string_bytes l.text ++ spaced_names (drop l.number l.names) ≡ string_bytes l.fn.text ++ spaced_names l.names
