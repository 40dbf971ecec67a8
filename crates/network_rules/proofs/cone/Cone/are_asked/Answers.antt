use Rattle.std.proofs.Common.{arith}
use Rattle.network_rules.proofs.cone.Cone.are_asked.Goals as goal

pub returns : goal.returns
returns g c = λ h n lt. c.loop-node.invariant n (let end = c.loop-node-test.false in omega (arith, lt, end))
