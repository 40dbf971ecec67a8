use Rattle.std.proofs.Common.{rules, tests, length, not, codes, ◌==◌}
use Rattle.std.specs.Str.{bytes_eq}
use Rattle.std.proofs.lemmas.Iterator.Consumers.{YieldsList-at, YieldsList-from_filter}
use Rattle.std.proofs.lemmas.Iterator.Search.{all_from_yields_List}
use Rattle.std.proofs.lemmas.Iterator.Splits.{YieldsList-from_slice_split}
use Rattle.prompt_core.proofs.quit.are_quits.Goals as goal

pub returns : goal.returns
returns c =
    all_from_yields_List (λ word. bytes_eq word (codes ":quit")) _ _ _ c.all.ensures.ran
    (YieldsList-from_filter _ (λ word. not (length word == 0))
    (YieldsList-at c.filter.ensures.source
    (YieldsList-from_slice_split _ (λ b. b == 32) c.args.line.now c.split.ensures.rest c.split.ensures.done c.split.ensures.closure
    (λ x b q k. search rules)))
    c.filter.ensures.closure
    (λ x b q k. search (rules, tests)))
    (λ x b q k. search (rules, tests))
