use Rattle.std.proofs.Common.{arith}
use Rattle.network_rules.proofs.WantedDots.{get_low, wanted_at}
use Rattle.network_rules.proofs.cone.have_all.Goals as goal

pub returns : goal.returns
returns c = λ h d wanted.
    let at = wanted_at c.args.dots.now d wanted in
    c.loop-place.invariant at.0 (let lt = get_low c.args.dots.now at.0 d at.1 in let end = c.loop-place-test.false in omega (arith, lt, end)) d at.1
