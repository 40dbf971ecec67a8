use Rattle.replica_core.proofs.Sizes.{store_fits}
use Rattle.replica_core.proofs.replica.Replica.is_clock_full.Goals as goal

pub own_clock-requires : goal.own_clock-requires
own_clock-requires g c = store_fits g.row.A g.A.Allocator (search tt)
