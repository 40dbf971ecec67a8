use Rattle.std.proofs.Common.{rules}
use Rattle.replica_core.proofs.replica.Replica.put_status.Goals as goal

pub put-requires : goal.put-requires
put-requires g c = search rules
