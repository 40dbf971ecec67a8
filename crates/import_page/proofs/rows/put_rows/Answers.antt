use Rattle.std.proofs.Common.{◌++◌, ◌∙◌, ap, append_assoc, refl, arith, string_bytes}
use Rattle.page_data.specs.Json.{comma_at}
use Rattle.import_report.proofs.Pieces.{numbered_more, pieces_all}
use Rattle.import_page.specs.Entries.{row_text, rows_text}
use Rattle.import_page.proofs.rows.put_rows.Goals as goal

pub loop-place-preserved : goal.loop-place-preserved
unfolding rows_text
loop-place-preserved g c =
    let row = c.index-rows-place.result in
    let place = c.loop-place.place in
    numbered_more c.args.rows.now place row row rows_text (λ r. comma_at place ++ row_text r) _ _ _ (λ y ys. refl) c.loop-place-test.true c.index-rows-place.is
    c.loop-place.invariant
    (c.in_ok-put_row.ensures ∙ ap (λ t. t ++ row_text row) c.in_ok-put_comma.ensures ∙ append_assoc (string_bytes c.loop-place.text) (comma_at place) (row_text row))

pub returns : goal.returns
unfolding rows_text
returns g c = pieces_all c.args.rows.now c.loop-place.place (rows_text c.loop-place.place) _ _ refl (omega arith) c.loop-place.invariant
