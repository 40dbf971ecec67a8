use Rattle.std.proofs.Common.{◌≡◌, ◌+◌, drop}
use Rattle.hint_core.specs.Choices.{letter_from}
use Rattle.hint_core.proofs.names_hint.letter_hint.Given as goal

-- what is left tells the same
abbrev pub invariant-loop-at : goal.invariant-loop-at
invariant-loop-at l = letter_from l.word (l.at + 1) (drop l.at l.bytes) ≡ letter_from l.word 1 l.bytes
