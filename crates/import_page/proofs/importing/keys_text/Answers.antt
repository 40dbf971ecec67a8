use Rattle.std.proofs.Common.{◌++◌, ◌∙◌, [], codes, ap}
use Rattle.page_data.specs.PageData.{texts_text}
use Rattle.import_page.specs.Keys.{keys_text}
use Rattle.import_page.proofs.Pieces.{four_more, two_more}
use Rattle.import_page.proofs.importing.keys_text.Goals as goal

pub returns : goal.returns
unfolding keys_text
returns g c =
    let t = c.args.tables.now in
    let first = codes ",\"names\":[" in
    let front = first ++ texts_text 0 t.nodes ++ codes "],\"pids\":[" ++ texts_text 0 t.pids in
    let middle = front ++ codes "],\"cut\":[" ++ texts_text 0 t.longs ++ codes "],\"events\":[" in
    two_more [] (middle ++ c.args.entries.now) (codes "]") _ _
    (two_more [] middle c.args.entries.now _ _
    (two_more [] (front ++ codes "],\"cut\":[" ++ texts_text 0 t.longs) (codes "],\"events\":[") _ _
    (two_more [] (front ++ codes "],\"cut\":[") (texts_text 0 t.longs) _ _
    (two_more [] front (codes "],\"cut\":[") _ _
    (four_more [] first _ _ _ _ _ _ _ (c.in_ok-push_str.ensures.bytes ∙ ap (λ t. t ++ first) c.new-keys.ensures.bytes) c.in_ok-put_texts.ensures
    c.in_ok-push_str-2.ensures.bytes c.in_ok-put_texts-2.ensures)
    c.in_ok-push_str-3.ensures.bytes)
    c.in_ok-put_texts-3.ensures)
    c.in_ok-push_str-4.ensures.bytes)
    c.in_ok-push_str-5.ensures.bytes)
    c.in_ok-push_str-6.ensures.bytes
