use Rattle.std.proofs.Common.{◌≡◌, ◌+◌, ◌++◌, drop, string_bytes}
use Rattle.journal_core.specs.Holdings.{kepts}
use Rattle.whatif_report.specs.Texts.{differences_text}
use Rattle.whatif_report.proofs.telling.put_differences.Given as goal

-- what is left comes behind what was put
abbrev pub invariant-loop-place : goal.invariant-loop-place
invariant-loop-place g l =
    string_bytes l.text ++ differences_text l.recorded.names.now (kepts l.recorded.journal.now.steps) l.recorded.before.now (l.place + 1) (drop l.place l.told)
    ≡ string_bytes l.fn.text ++ differences_text l.recorded.names.now (kepts l.recorded.journal.now.steps) l.recorded.before.now 1 l.told
