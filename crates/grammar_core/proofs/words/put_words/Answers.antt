use Rattle.std.proofs.Common.{◌≡◌, ◌∙◌, ◌++◌, ◌∷◌, [], ap, sym, map}
use Rattle.std.proofs.lemmas.List.{map-append}
use Rattle.grammar_core.proofs.WordByWord.{words_then, words_then-none, words_then-word}
use Rattle.grammar_core.proofs.words.put_words.Goals as goal

pub returns-then-is_empty : goal.returns-then-is_empty
returns-then-is_empty g c lasting =
    sym c.loop-rest.invariant
    ∙ words_then-none _ c.loop-rest.rest.now _ _ c.in-len1-up.len_at_least c.if-first-eq32.false c.first_word.ensures.whole (sym c.if-is_empty.ensures)
    c.first_word.ensures.longest

pub loop-rest-preserved : goal.loop-rest-preserved
loop-rest-preserved g c =
    let grown : map (λ word. word.now) c.push.new.self.items ≡ map (λ word. word.now) c.loop-rest.words.items ++ c.first_word.result.0.now ∷ [] =
    ap (map (λ word. word.now)) c.in_ok-push.ensures.ok ∙ map-append (λ word. word.now) c.loop-rest.words.items (c.first_word.result.0 ∷ []) in
    ap (λ words. words_then words c.first_word.result.1.now) grown
    ∙ words_then-word _ c.loop-rest.rest.now _ _ c.first_word.ensures.whole (sym c.if-is_empty.ensures) c.first_word.ensures.visible c.first_word.ensures.longest
    ∙ c.loop-rest.invariant
