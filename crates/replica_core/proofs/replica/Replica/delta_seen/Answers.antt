use Rattle.std.proofs.Common.{◌∙◌, ap}
use Rattle.replica_core.specs.Replicas.{Replica}
use Rattle.replica_core.proofs.Sizes.{seen_fits, store_fits}
use Rattle.replica_core.proofs.replica.Replica.delta_seen.Goals as goal

pub returns : goal.returns
returns g c = c.delta_seen.ensures ∙ ap (λ (r : Replica). r.delta.seen) c.self.view_is

pub delta_seen-requires : goal.delta_seen-requires
delta_seen-requires g c = (store_fits g.row.A g.A.Allocator (search tt), seen_fits g.row.A g.A.Allocator (search tt))
