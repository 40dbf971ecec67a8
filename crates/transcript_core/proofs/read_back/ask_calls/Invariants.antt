use Rattle.std.proofs.Common.{◌≡◌, drop, map}
use Rattle.grammar_core.specs.Scripts.{plain_lines}
use Rattle.run_core.specs.Report.{call_of, commands_of}
use Rattle.transcript_core.proofs.read_back.ask_calls.Given as goal

-- where the lines that are left ask the calls that are left, all lines ask all calls
abbrev pub invariant-loop-place : goal.invariant-loop-place
invariant-loop-place g l =
    commands_of (plain_lines (drop l.place l.lines)) ≡ map call_of (drop l.place l.history) →
    commands_of (plain_lines l.lines) ≡ map call_of l.history
