use Rattle.std.proofs.Common.{◌++◌, codes}
use Rattle.page_data.specs.Json.{number_key}
use Rattle.import_page.specs.Entries.{list_text, rows_text}
use Rattle.import_page.proofs.Pieces.{four_more, two_more}
use Rattle.import_page.proofs.rows.put_list.Goals as goal

pub returns : goal.returns
unfolding list_text
returns g c =
    let front = number_key (codes "node") c.args.node ++ codes ",\"online\":[[" ++ rows_text 0 c.args.ours.now ++ codes "],[" in
    two_more _ (front ++ rows_text 0 c.args.theirs.now) (codes "]]") _ _
    (two_more _ front (rows_text 0 c.args.theirs.now) _ _
    (four_more _ _ _ _ _ _ _ _ _ c.in_ok-put_number_key.ensures c.in_ok-push_str.ensures.bytes c.in_ok-put_rows.ensures c.in_ok-push_str-2.ensures.bytes)
    c.in_ok-put_rows-2.ensures)
    c.in_ok-push_str-3.ensures.bytes
