use Rattle.std.proofs.Common.{◌∙◌, ◌++◌, ap, arith, string_bytes}
use Rattle.std.specs.Prelude.{option_copied}
use Rattle.svg_core.specs.Trees.{text_of}
use Rattle.picture_core.specs.Pictures.{bar_at}
use Rattle.picture_core.proofs.Lanes.{bars_more, bars_all}
use Rattle.picture_core.proofs.picture.put_bars.Goals as goal

pub loop-number-preserved : goal.loop-number-preserved
loop-number-preserved g c = bars_more _ _ _ _ _ c.loop-number.number _ _ _ (omega arith) c.loop-number.invariant
    (c.in_ok-put_bar_at.ensures
    ∙ ap (λ nodes. string_bytes c.loop-number.text ++ text_of (bar_at (option_copied c.args.bars.now.asked) nodes c.args.bars.now.last c.args.bars.now.switches.now c.loop-number.number))
    c.len-nodes.ensures.len)

pub returns : goal.returns
returns g c = bars_all _ _ _ _ _ c.loop-number.number _ _ (omega arith) c.loop-number.invariant
