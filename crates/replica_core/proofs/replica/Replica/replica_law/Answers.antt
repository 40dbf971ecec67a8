use Rattle.std.proofs.Common.{subst}
use Rattle.replica_core.specs.Invariant.{IsReplica}
use Rattle.replica_core.proofs.replica.Replica.replica_law.Goals as goal

pub returns : goal.returns
returns g c = subst IsReplica c.self.view_is c.self.invariant
