use Rattle.std.proofs.Common.{◌≡◌, ◌++◌, drop, string_bytes}
use Rattle.report_core.specs.StepText.{extract_from}
use Rattle.report_core.proofs.step_text.put_names.Given as goal

-- the names so far, and then those that are left
abbrev pub invariant-loop-number : goal.invariant-loop-number
invariant-loop-number g l =
    string_bytes l.text ++ extract_from l.chosen l.number (drop l.number l.names) ≡ string_bytes l.fn.text ++
    extract_from l.chosen 0 l.names
