use Rattle.std.proofs.Common.{rules}
use Rattle.replica_core.proofs.replica.Replica.join_refusal.Goals as goal

-- the requirements of the calls are its own
pub is_tracked-requires : goal.is_tracked-requires
is_tracked-requires g c = search tt

pub are_too_many-requires : goal.are_too_many-requires
are_too_many-requires g c = search tt

pub is_clock_full-requires : goal.is_clock_full-requires
is_clock_full-requires g c = (search tt, search rules)

pub entries-requires : goal.entries-requires
entries-requires g c = search tt

pub len-requires : goal.len-requires
len-requires g c = search rules
