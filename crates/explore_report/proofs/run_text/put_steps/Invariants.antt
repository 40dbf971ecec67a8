use Rattle.std.proofs.Common.{◌≡◌, ◌++◌, drop, string_bytes}
use Rattle.journal_core.specs.Holdings.{kepts}
use Rattle.explore_network.specs.Walks.{steps_at}
use Rattle.transcript_core.specs.Runs.{step_lines}
use Rattle.explore_report.proofs.run_text.put_steps.Given as goal

-- what is left comes behind what was put
abbrev pub invariant-loop-place : goal.invariant-loop-place
invariant-loop-place g l =
    string_bytes l.text ++ step_lines l.indent l.names (steps_at (kepts l.journal.steps) (drop l.place-index l.places))
    ≡ string_bytes l.fn.text ++ step_lines l.indent l.names (steps_at (kepts l.journal.steps) l.places)
