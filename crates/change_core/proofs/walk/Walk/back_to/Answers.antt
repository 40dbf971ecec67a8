use Rattle.std.proofs.Common.{◌<◌, length, arith, rules}
use Rattle.change_core.proofs.Walks.{left_less}
use Rattle.change_core.proofs.walk.Walk.back_to.Goals as goal

pub loop-self-preserved : goal.loop-self-preserved
loop-self-preserved g c =
    let inv = c.loop-self.invariant in
    let some : 0 < length c.loop-self.self.taken = search rules in
    let lt : c.args.count < length c.loop-self.self.taken = search rules in
    let less = left_less c.args.self.now.taken c.loop-self.self.taken c.back.new.self.taken inv.left some c.in_ok-back.ensures.less in
    let long = less.1 in
    record {
      left = less.0;
      some = omega (arith, lt, long);
      walk = (inv.walk.0, inv.walk.1, c.in_ok-back.ensures.stays inv.walk.0 inv.walk.1 inv.walk.2);
      stays = λ ks first h. c.in_ok-back.ensures.stays ks first (inv.stays ks first h);
    }
