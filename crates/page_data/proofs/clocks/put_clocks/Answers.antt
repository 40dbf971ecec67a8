use Rattle.page_data.proofs.Pieces.{one_clock_more}
use Rattle.page_data.proofs.clocks.put_clocks.Goals as goal

pub loop-before-preserved : goal.loop-before-preserved
loop-before-preserved g c =
    let k = c.loop-before.before in
    let old = c.args.clocks.now.items in
    one_clock_more old c.loop-before.clocks.items c.push.new.self.items k c.loop-before.invariant c.in_ok-push.ensures.items
