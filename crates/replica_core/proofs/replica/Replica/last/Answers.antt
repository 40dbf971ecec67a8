use Rattle.std.proofs.Common.{◌∙◌, ap}
use Rattle.replica_core.specs.Replicas.{last}
use Rattle.replica_core.proofs.Sizes.{store_fits}
use Rattle.replica_core.proofs.replica.Replica.last.Goals as goal

pub returns : goal.returns
returns g c = c.last.ensures ∙ ap last c.self.view_is

pub last-requires : goal.last-requires
last-requires g c = store_fits g.row.A g.A.Allocator (search tt)
