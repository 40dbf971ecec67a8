use Rattle.std.proofs.Common.{codes, ◌++◌, ◌∙◌, string_bytes, ap, append_assoc}
use Rattle.page_data.specs.PageData.{nodes_text, texts_text}
use Rattle.page_data.proofs.data.put_nodes.Goals as goal

pub returns : goal.returns
unfolding nodes_text
returns g c =
    let now = string_bytes c.args.text.now in
    let names = texts_text 0 c.args.names.now in
    let first = codes "{\"version\":1,\"nodes\":[" in
    let last = codes "]" in
    c.in_ok-push_str-2.ensures.bytes
    ∙ ap (λ t. t ++ last) (c.in_ok-put_names.ensures ∙ ap (λ t. t ++ names) c.in_ok-push_str.ensures.bytes ∙ append_assoc now first names)
    ∙ append_assoc now (first ++ names) last
