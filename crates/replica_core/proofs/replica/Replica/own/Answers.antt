use Rattle.std.proofs.Common.{◌∙◌, ap}
use Rattle.replica_core.specs.Replicas.{Replica}
use Rattle.replica_core.proofs.Sizes.{store_fits}
use Rattle.replica_core.proofs.replica.Replica.own.Goals as goal

pub returns : goal.returns
returns g c = c.own.ensures ∙ ap (λ (r : Replica). r.own) c.self.view_is

pub own-requires : goal.own-requires
own-requires g c = store_fits g.row.A g.A.Allocator (search tt)
