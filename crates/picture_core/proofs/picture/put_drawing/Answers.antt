use Rattle.std.proofs.Common.{◌≡◌, length, rules, string_bytes}
use Rattle.std.specs.Prelude.{option_copied}
use Rattle.picture_core.specs.Pictures.{width}
use Rattle.picture_core.proofs.Whole.{around_text}
use Rattle.picture_core.proofs.picture.put_drawing.Goals as goal

pub returns : goal.returns
returns g c =
    let layers = c.args.layers.now in
    let wide_is : c.width-width.result ≡ width (length c.args.names.now) layers.longest = search rules in
    around_text c.args.names.now c.args.range (option_copied c.args.asked) layers.switches.items layers.longest c.width-width.result
    c.head_height-top.result c.height-height.result (string_bytes layers.messages) (string_bytes layers.rows) _ _ _ _ _ _ _ _ _ _ _ wide_is
    c.head_height-top.ensures.is c.height-height.ensures.is c.in_ok-put_opening.ensures c.in_ok-put_front.ensures c.in_ok-put_names.ensures
    c.in_ok-put_part.ensures (search rules) c.in_ok-put_lanes.ensures c.in_ok-put_layer.ensures c.in_ok-put_layer-2.ensures
    c.in_ok-put_end.ensures c.in_ok-put_end-2.ensures
