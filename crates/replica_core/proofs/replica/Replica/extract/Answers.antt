use Rattle.replica_core.proofs.Sizes.{store_fits}
use Rattle.replica_core.proofs.replica.Replica.extract.Goals as goal

pub extract-requires : goal.extract-requires
extract-requires g c = (store_fits g.row.A g.A.Allocator (search tt), search tt)
