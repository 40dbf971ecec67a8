use Rattle.std.proofs.Common.{◌∙◌, ◌≡◌, [], refl, arith, get_or}
use Rattle.std.proofs.lemmas.Option.{unwrap_or-slice_get}
use Rattle.import_report.specs.Events.{ended}
use Rattle.import_report.specs.Comments.{word_line, words_comments}
use Rattle.import_report.proofs.Pieces.{numbered_more, pieces_all}
use Rattle.import_report.proofs.comments.put_words.Goals as goal

pub loop-number-preserved : goal.loop-number-preserved
unfolding words_comments
loop-number-preserved g c =
    let longs = c.args.longs.now in
    let n = c.loop-number.number in
    let text_is : c.text_at.result.now ≡ get_or longs n [] = c.text_at.ensures ∙ unwrap_or-slice_get longs n [] in
    numbered_more longs n [] c.text_at.result.now words_comments (λ text. ended (word_line n text)) _ _ _ (λ text texts. refl)
    (omega arith) text_is c.loop-number.invariant c.in_ok-put_word.ensures

pub returns-clause-text : goal.returns-clause-text
unfolding words_comments
returns-clause-text g c = pieces_all c.args.longs.now c.loop-number.number (words_comments c.loop-number.number) _ _ refl (omega arith) c.loop-number.invariant
