use Rattle.std.proofs.Common.{◌≡◌, ◌∙◌, ap, length, not, rules, tests, unwrap_or}
use Rattle.std.proofs.lemmas.Iterator.{YieldsList-from_slice}
use Rattle.std.proofs.lemmas.Iterator.Search.{position_from_yields_List}
use Rattle.std.specs.List.{position}
use Rattle.payload_core.specs.Words.{is_word_byte}
use Rattle.grammar_core.proofs.WordByWord.{position-prefix_len}
use Rattle.grammar_core.proofs.words.word_len.Goals as goal

pub returns : goal.returns
returns c =
    let found : c.position.result ≡ position (λ byte. not (is_word_byte byte)) c.args.bytes.now =
    position_from_yields_List (λ byte. not (is_word_byte byte)) _ _ c.position.result c.position.ensures.ran
    (YieldsList-from_slice c.args.bytes.now c.iter.ensures.rest)
    (λ x b q k. search (rules, tests)) in
    c.unwrap_or.ensures ∙ ap (λ end. unwrap_or end (length c.args.bytes.now)) found ∙ position-prefix_len c.args.bytes.now
