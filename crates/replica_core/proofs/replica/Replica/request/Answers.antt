use Rattle.std.proofs.Common.{rules}
use Rattle.replica_core.proofs.replica.Replica.request.Goals as goal

pub known-requires : goal.known-requires
known-requires g c = search tt

pub request-requires : goal.request-requires
request-requires g c = search rules

pub own-requires : goal.own-requires
own-requires g c = search tt
