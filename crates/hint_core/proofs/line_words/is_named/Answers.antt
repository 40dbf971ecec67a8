use Rattle.std.proofs.Common.{rules, tests, ◌==◌}
use Rattle.std.proofs.lemmas.Iterator.{YieldsList-from_take}
use Rattle.std.proofs.lemmas.Iterator.Consumers.{YieldsList-at}
use Rattle.std.proofs.lemmas.Iterator.Search.{any_from_yields_List}
use Rattle.std.proofs.lemmas.Iterator.Splits.{YieldsList-from_slice_split}
use Rattle.hint_core.specs.LineWords.{names}
use Rattle.hint_core.proofs.line_words.is_named.Goals as goal

pub returns : goal.returns
returns c =
    any_from_yields_List (names c.args.keyword.now c.args.word.now) _ _ _ c.any.ensures.ran
    (YieldsList-from_take _
    (YieldsList-at c.take.ensures.source
    (YieldsList-from_slice_split _ (λ b. b == 10) c.args.bytes.now c.split.ensures.rest c.split.ensures.done c.split.ensures.closure
    (λ x b q k. search rules)))
    c.take.ensures.count)
    (λ x b q k. search (rules, tests))
