use Rattle.std.proofs.Common.{◌∙◌, ◌≡◌, ◌++◌, [], ap, refl, arith, get_or, string_bytes}
use Rattle.std.proofs.lemmas.Option.{unwrap_or-slice_get}
use Rattle.report_core.specs.Rows.{name_at}
use Rattle.import_report.specs.Comments.{node_comment, nodes_comments}
use Rattle.import_report.proofs.Pieces.{numbered_more, pieces_all}
use Rattle.import_report.proofs.comments.put_nodes.Goals as goal

pub loop-number-preserved : goal.loop-number-preserved
unfolding nodes_comments
loop-number-preserved g c =
    let nodes = c.args.nodes.now in
    let names = c.args.names.now in
    let n = c.loop-number.number in
    let text_is : c.text_at.result.now ≡ get_or nodes n [] = c.text_at.ensures ∙ unwrap_or-slice_get nodes n [] in
    numbered_more nodes n [] c.text_at.result.now (nodes_comments names) (λ node. node_comment (name_at names n) node) _ _ _ (λ node nodes. refl)
    (omega arith) text_is c.loop-number.invariant
    (c.in_ok-put_node.ensures ∙ ap (λ w. string_bytes c.loop-number.text ++ node_comment w c.text_at.result.now) c.name_at-name.ensures)

pub returns : goal.returns
unfolding nodes_comments
returns g c =
    pieces_all c.args.nodes.now c.loop-number.number (nodes_comments c.args.names.now c.loop-number.number) _ _ refl (omega arith) c.loop-number.invariant
