use Rattle.std.proofs.lemmas.Grind.{common_steps}
use Rattle.std.proofs.Common.{arith}
use Rattle.replica_core.proofs.change.Change.joined_at.Goals as goal

pub returns-in-Join : goal.returns-in-Join
returns-in-Join g c = grind (arith, common_steps)

pub returns-in_default : goal.returns-in_default
returns-in_default g c = grind (arith, common_steps)

pub last-requires : goal.last-requires
last-requires g c = grind (arith, common_steps)
