use Rattle.std.proofs.Common.{◌∙◌, ◌≡◌, ◌∷◌, [], map, refl, arith, get_or}
use Rattle.std.proofs.lemmas.Option.{unwrap_or-slice_get}
use Rattle.grammar_core.specs.Grammar.{unreserved}
use Rattle.import_report.proofs.Pieces.{piece_more, pieces_all}
use Rattle.import_report.proofs.names.texts_as_words.Goals as goal

pub loop-number-preserved : goal.loop-number-preserved
loop-number-preserved g c =
    let texts = c.args.texts.now in
    let n = c.loop-number.number in
    let text_is : c.text_at.result.now ≡ get_or texts n [] = c.text_at.ensures ∙ unwrap_or-slice_get texts n [] in
    piece_more texts n [] c.text_at.result.now (map unreserved) (λ text. unreserved text ∷ []) _ _ _ (λ text texts. refl)
    (omega arith) text_is c.loop-number.invariant c.in_ok-add_word.ensures

pub returns : goal.returns
returns g c = pieces_all c.args.texts.now c.loop-number.number (map unreserved) _ _ refl (omega arith) c.loop-number.invariant
