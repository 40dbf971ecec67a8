use Rattle.std.proofs.Common.{◌≡◌, ◌++◌, drop, string_bytes}
use Rattle.transcript_core.specs.Scripts.{event_lines}
use Rattle.transcript_core.proofs.script.put_events.Given as goal

-- the lines so far, and then those that are left
abbrev pub invariant-loop-place : goal.invariant-loop-place
invariant-loop-place g l =
    string_bytes l.text ++ event_lines (record { nodes = l.cast.nodes.now; consoles = l.cast.consoles.now }) (drop l.place l.history)
    ≡ string_bytes l.fn.text ++ event_lines (record { nodes = l.cast.nodes.now; consoles = l.cast.consoles.now }) l.history
