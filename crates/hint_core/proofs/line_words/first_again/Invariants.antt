use Rattle.std.proofs.Common.{◌≡◌, drop, take, map, []}
use Rattle.grammar_core.specs.Words.{lines_of}
use Rattle.hint_core.specs.LineWords.{first_again}
use Rattle.hint_core.proofs.line_words.first_again.Given as goal

-- the words so far, and then those that are left
abbrev pub invariant-loop-at : goal.invariant-loop-at
invariant-loop-at l =
    first_again (take l.count (lines_of l.bytes)) (map (λ word. word.now) (take l.at l.words)) (map (λ word. word.now) (drop l.at l.words)) ≡
    first_again (take l.count (lines_of l.bytes)) [] (map (λ word. word.now) l.words)
