use Rattle.std.proofs.Common.{arith}
use Rattle.network_rules.proofs.FallingRows.{falling}
use Rattle.network_rules.proofs.cone.is_falling.Goals as goal

pub returns : goal.returns
returns c = λ h. falling c.args.row.now (λ p lt. c.loop-place.invariant p (let end = c.loop-place-test.false in omega (arith, lt, end)))
