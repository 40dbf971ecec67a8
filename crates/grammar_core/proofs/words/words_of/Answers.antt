use Rattle.std.proofs.Common.{rules, tests, length, not, ◌==◌, lit<}
use Rattle.std.proofs.lemmas.Iterator.Consumers.{map_from_collect, YieldsList-from_filter}
use Rattle.std.proofs.lemmas.Iterator.Splits.{YieldsList-from_str_split}
use Rattle.grammar_core.proofs.words.words_of.Goals as goal

pub returns : goal.returns
returns g c =
    map_from_collect _ c.collect.ensures.ran
    (YieldsList-from_filter _ (λ word. not (length word == 0)) (YieldsList-from_str_split 32 c.args.line.now (lit< tt) (cc) (cc) (cc))
    c.filter.ensures.closure
    (λ x b q k. search (rules, tests)))
