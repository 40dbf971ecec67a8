use Rattle.network_core.proofs.Seen.{same_replica_holds, seen_holds}
use Rattle.network_core.proofs.laws.seen_law.Goals as goal

pub returns-clause-seen : goal.returns-clause-seen
returns-clause-seen c = seen_holds

pub returns-clause-same : goal.returns-clause-same
returns-clause-same c = same_replica_holds
