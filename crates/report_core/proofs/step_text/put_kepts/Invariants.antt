use Rattle.std.proofs.Common.{◌≡◌, ◌++◌, length, string_bytes}
use Rattle.journal_core.specs.Holdings.{kepts}
use Rattle.report_core.specs.StepText.{kept_lines}
use Rattle.report_core.proofs.step_text.put_kepts.Given as goal

-- the steps so far, and then the others
abbrev pub invariant-loop-kept : goal.invariant-loop-kept
invariant-loop-kept g l = string_bytes l.text ++ kept_lines l.names l.steps ≡ string_bytes l.initial.text ++ kept_lines l.names (kepts l.journal.steps)

abbrev pub decreases-loop-kept : goal.decreases-loop-kept
decreases-loop-kept g l = length l.steps
