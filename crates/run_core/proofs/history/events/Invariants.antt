use Rattle.std.proofs.Common.{◌≡◌, ◌++◌, drop, map, string_bytes}
use Rattle.run_core.specs.Report.{call_of, commands_text}
use Rattle.run_core.proofs.history.events.Given as goal

-- the acts so far, and then those that are left
abbrev pub invariant-loop-place : goal.invariant-loop-place
invariant-loop-place g l =
    string_bytes l.text ++ commands_text l.bench (map call_of (drop l.place l.history)) ≡ string_bytes l.fn.text ++
    commands_text l.fn.bench (map call_of l.history)
