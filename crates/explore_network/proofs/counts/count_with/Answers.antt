use Rattle.std.proofs.Common.{ap, arith}
use Rattle.explore_network.proofs.CountLoops.{low}
use Rattle.explore_network.proofs.Sums.{count_push, one}
use Rattle.explore_network.proofs.counts.count_with.Goals as goal

pub returns-then-has : goal.returns-then-has
returns-then-has g c = λ w is few.
    let more = count_push c.args.turn c.args.kept.now w in
    let here = ap one c.if-has.ensures in
    let le = low c.args.turn w in
    let sum = c.saturating_add.ensures in
    omega (arith, more, here, le, sum, is, few)
