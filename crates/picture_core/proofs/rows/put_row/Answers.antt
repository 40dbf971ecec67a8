use Rattle.std.proofs.Common.{◌∙◌, ◌++◌, ap, string_bytes}
use Rattle.std.proofs.lemmas.Result.{on_ok_weaker}
use Rattle.bench_core.specs.Machine.{Event}
use Rattle.svg_core.specs.Trees.{text_of}
use Rattle.picture_core.specs.Rows.{mark_at, number_by, row_tree}
use Rattle.picture_core.specs.Shapes.{words_label}
use Rattle.picture_core.proofs.Texts.{is_put, row_text, then_text}
use Rattle.picture_core.proofs.rows.put_row.Goals as goal

pub returns : goal.returns
returns g c =
    let nodes = c.args.sheet.now.nodes in
    let steps = c.args.sheet.now.steps.now in
    let row = c.args.call.now.row in
    let reply = c.event.inside.reply in
    let title = c.args.title.now in
    let words = c.args.words.now in
    let two = then_text _ _ _ _ _ c.in_ok-put_number_by.ensures c.in_ok-put_mark_at.ensures in
    on_ok_weaker c.put_words_label.result
    (λ last. is_put _ _ _ _ (row_text nodes steps c.args.lane row reply title words)
    (then_text _ _ _ _ _ two last
    ∙ ap (λ kind. string_bytes c.args.text.now ++ (text_of (number_by row reply) ++ text_of (mark_at nodes row kind title c.args.lane) ++ text_of (words_label nodes row kind words)))
    c.looks-kind.ensures)
    ∙ ap (λ (e : Event). string_bytes c.args.text.now ++ text_of (row_tree nodes steps c.args.lane row e.reply title words)) c.event.view_is)
    c.put_words_label.ensures
