use Rattle.std.proofs.Common.{◌≡◌, ◌<◌, rules, tests, length, not, map, take, ◌==◌, lit<, arith, ap, ◌∙◌}
use Rattle.std.proofs.lemmas.Iterator.{YieldsList-from_take}
use Rattle.std.proofs.lemmas.Iterator.Consumers.{YieldsList-at, YieldsList-from_filter, YieldsList-turn, YieldsList-end}
use Rattle.std.proofs.lemmas.Iterator.Splits.{YieldsList-from_str_split}
use Rattle.grammar_core.specs.Words.{words_of}
use Rattle.hint_core.proofs.Lines.{take_short, few_of_text}
use Rattle.hint_core.proofs.line_words.few_words.Goals as goal

-- fewer words were seen than are taken
pub push-requires : goal.push-requires
push-requires c =
    let turn = YieldsList-turn
    (YieldsList-at c.into_iter-word-iterator.ensures.into_iter_gives
    (YieldsList-from_take _
    (YieldsList-at c.take-word-items.ensures.source
    (YieldsList-from_filter _ (λ word. not (length word == 0)) (YieldsList-from_str_split 32 c.in-Some.text.now (lit< tt) (cc) (cc) (cc))
    c.filter.ensures.closure
    (λ word b q k. search (rules, tests))))
    c.take-word-items.ensures.count))
    c.loop-word.yielded _ c.loop-word.yielded_by _ _ c.in-Some-word.word c.in-Some-word.is c.next.ensures.steps in
    let few = take_short 34 (words_of c.in-Some.text.now) in
    let same = ap length c.loop-word.invariant.2 in
    let less : length c.loop-word.words.items < 34 = omega (arith, turn.0) in
    (lit< tt, less)

-- all of them were seen
pub returns : goal.returns
returns c =
    let seen = YieldsList-end
    (YieldsList-at c.into_iter-word-iterator.ensures.into_iter_gives
    (YieldsList-from_take _
    (YieldsList-at c.take-word-items.ensures.source
    (YieldsList-from_filter _ (λ word. not (length word == 0)) (YieldsList-from_str_split 32 c.in-Some.text.now (lit< tt) (cc) (cc) (cc))
    c.filter.ensures.closure
    (λ word b q k. search (rules, tests))))
    c.take-word-items.ensures.count))
    c.loop-word.yielded _ c.loop-word.yielded_by _ _ c.in-None.is c.next.ensures.steps in
    ap (map (λ word. word.now)) c.loop-word.invariant.2 ∙ (seen.0 ∙ few_of_text c.args.line.now c.in-Some.text.now c.in-Some.ensures)
