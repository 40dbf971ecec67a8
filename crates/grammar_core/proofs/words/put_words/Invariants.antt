use Rattle.std.proofs.Common.{◌≡◌, length, map}
use Rattle.grammar_core.specs.Grammar.{text_words}
use Rattle.grammar_core.proofs.WordByWord.{words_then}
use Rattle.grammar_core.proofs.words.put_words.Given as goal

-- the words so far, and then those of what is left
abbrev pub invariant-loop-rest : goal.invariant-loop-rest
invariant-loop-rest g l = words_then (map (λ word. word.now) l.words.items) l.rest ≡ text_words l.line

abbrev pub decreases-loop-rest : goal.decreases-loop-rest
decreases-loop-rest g l = length l.rest
