use Rattle.std.proofs.Common.{◌≡◌, ◌++◌, drop, string_bytes}
use Rattle.transcript_core.specs.Scripts.{spaced_names}
use Rattle.transcript_core.proofs.script.put_each_console.Given as goal

-- the names so far, and then those that are left
abbrev pub invariant-loop-number : goal.invariant-loop-number
invariant-loop-number g l =
    string_bytes l.text ++ spaced_names (drop l.number l.consoles) ≡ string_bytes l.fn.text ++ spaced_names l.consoles
