use Rattle.std.proofs.Common.{rules, tests, length, not, ◌==◌}
use Rattle.std.proofs.lemmas.Iterator.Consumers.{YieldsList-at, YieldsList-from_filter, count_from_yields_List}
use Rattle.std.proofs.lemmas.Iterator.Splits.{YieldsList-from_slice_split}
use Rattle.prompt_core.proofs.quit.word_count.Goals as goal

pub returns : goal.returns
returns c =
    count_from_yields_List c.filter.result _ c.count.ensures.ran
    (YieldsList-from_filter _ (λ word. not (length word == 0))
    (YieldsList-at c.filter.ensures.source
    (YieldsList-from_slice_split _ (λ b. b == 32) c.args.line.now c.split.ensures.rest c.split.ensures.done c.split.ensures.closure
    (λ x b q k. search rules)))
    c.filter.ensures.closure
    (λ x b q k. search (rules, tests)))
