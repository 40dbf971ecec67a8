use Rattle.std.proofs.Common.{◌≡◌, drop, map, find, nat_lt, length, unwrap_or, []}
use Rattle.hint_core.proofs.text_hint.long_word.Given as goal

-- the first is among those that are left
abbrev pub invariant-loop-word : goal.invariant-loop-word
invariant-loop-word l =
    find (λ word. nat_lt 200 (length word)) (map (λ word. word.now) (drop l.word-index l.words)) ≡
    find (λ word. nat_lt 200 (length word)) (map (λ word. word.now) l.words)
