use Rattle.std.proofs.Common.{◌≡◌, ◌+◌, drop}
use Rattle.hint_core.specs.Choices.{byte_from}
use Rattle.hint_core.proofs.text_hint.byte_hint.Given as goal

-- what is left tells the same
abbrev pub invariant-loop-at : goal.invariant-loop-at
invariant-loop-at l = byte_from (l.at + 1) (drop l.at l.line) ≡ byte_from 1 l.line
