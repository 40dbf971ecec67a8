use Rattle.std.proofs.Common.{◌∙◌, ◌++◌, ap, arith, length, string_bytes}
use Rattle.svg_core.specs.Trees.{text_of}
use Rattle.picture_core.specs.Shapes.{lane_name}
use Rattle.picture_core.proofs.Lanes.{names_more, names_all}
use Rattle.picture_core.proofs.picture.put_names.Goals as goal

pub loop-number-preserved : goal.loop-number-preserved
loop-number-preserved g c = names_more _ _ _ c.loop-number.number _ _ _ (omega arith) c.loop-number.invariant
    (c.in_ok-put_lane_name.ensures
    ∙ ap (λ nodes. string_bytes c.loop-number.text ++ text_of (lane_name nodes c.from.result c.args.height c.name_at-name.result.now)) c.len-nodes.ensures.len
    ∙ ap (λ n. string_bytes c.loop-number.text ++ text_of (lane_name (length c.args.names.now) n c.args.height c.name_at-name.result.now)) c.from.ensures
    ∙ ap (λ name. string_bytes c.loop-number.text ++ text_of (lane_name (length c.args.names.now) c.loop-number.number c.args.height name)) c.name_at-name.ensures)

pub returns : goal.returns
returns g c = names_all _ _ _ c.loop-number.number _ _ (omega arith) c.loop-number.invariant
