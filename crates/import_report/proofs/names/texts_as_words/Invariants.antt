use Rattle.std.proofs.Common.{◌≡◌, ◌++◌, map, drop}
use Rattle.grammar_core.specs.Grammar.{unreserved}
use Rattle.import_report.proofs.names.texts_as_words.Given as goal

-- the words so far, and then those of the texts that are left
abbrev pub invariant-loop-number : goal.invariant-loop-number
invariant-loop-number g l = map (λ word. word.now) l.words.items ++ map unreserved (drop l.number l.texts) ≡ map unreserved l.texts
