use Rattle.std.proofs.Common.{◌≡◌, drop, map, find, not, take}
use Rattle.grammar_core.specs.Words.{lines_of}
use Rattle.hint_core.specs.LineWords.{is_node}
use Rattle.hint_core.proofs.names_hint.no_node.Given as goal

-- the first is among those that are left
abbrev pub invariant-loop-word : goal.invariant-loop-word
invariant-loop-word l =
    find (λ word. not (is_node (take l.count (lines_of l.bytes)) word)) (map (λ word. word.now) (drop l.word-index l.words)) ≡
    find (λ word. not (is_node (take l.count (lines_of l.bytes)) word)) (map (λ word. word.now) l.words)
