use Rattle.std.proofs.Common.{◌≡◌, [], ◌++◌, take, string_bytes}
use Rattle.transcript_core.specs.Runs.{step_lines}
use Rattle.whatif_report.proofs.run_text.put_steps.Given as goal

-- those of the first steps
abbrev pub invariant-loop-kept : goal.invariant-loop-kept
invariant-loop-kept g l = string_bytes l.text ≡ string_bytes l.fn.text ++ step_lines [] l.names (take l.kept-index l.run)
