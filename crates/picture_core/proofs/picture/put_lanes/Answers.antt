use Rattle.std.proofs.Common.{◌∙◌, ◌++◌, ap, arith, string_bytes}
use Rattle.svg_core.specs.Trees.{text_of}
use Rattle.picture_core.specs.Shapes.{lane}
use Rattle.picture_core.proofs.Lanes.{lanes_more, lanes_all}
use Rattle.picture_core.proofs.picture.put_lanes.Goals as goal

pub loop-number-preserved : goal.loop-number-preserved
loop-number-preserved g c = lanes_more _ _ _ c.loop-number.number _ _ _ (omega arith) c.loop-number.invariant
    (c.in_ok-put_lane.ensures
    ∙ ap (λ nodes. string_bytes c.loop-number.text ++ text_of (lane nodes c.loop-number.number c.args.range.first c.args.range.last)) c.len-nodes.ensures.len)

pub returns : goal.returns
returns g c = lanes_all _ _ _ c.loop-number.number _ _ (omega arith) c.loop-number.invariant
