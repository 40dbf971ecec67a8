use Rattle.std.proofs.Common.{◌≡◌, drop, map, find, not}
use Rattle.hint_core.specs.Choices.{is_given_name}
use Rattle.hint_core.proofs.names_hint.no_name.Given as goal

-- the first is among those that are left
abbrev pub invariant-loop-word : goal.invariant-loop-word
invariant-loop-word l =
    find (λ word. not (is_given_name word)) (map (λ word. word.now) (drop l.word-index l.words)) ≡
    find (λ word. not (is_given_name word)) (map (λ word. word.now) l.words)
