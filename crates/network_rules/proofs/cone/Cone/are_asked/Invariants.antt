use Rattle.std.proofs.Common.{◌<◌, ℕ}
use Rattle.network_rules.specs.Tables.{IsAskedAt}
use Rattle.network_rules.proofs.cone.Cone.are_asked.Given as goal

-- of the first numbers
abbrev pub invariant-loop-node : goal.invariant-loop-node
invariant-loop-node g l = (n : ℕ) → n < l.node → IsAskedAt l.turns l.asked n l.self
