use Rattle.std.proofs.Common.{◌≡◌, map, take}
use Rattle.grammar_core.specs.Grammar.{unreserved}
use Rattle.grammar_core.proofs.cast.all_unreserved.Given as goal

-- the words so far
abbrev pub invariant-loop-word : goal.invariant-loop-word
invariant-loop-word g l = map (λ word. word.now) l.plain.items ≡ map unreserved (map (λ word. word.now) (take l.word-index l.words))
