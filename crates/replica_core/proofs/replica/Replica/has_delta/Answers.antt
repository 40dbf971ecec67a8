use Rattle.std.proofs.Common.{◌∙◌, ap}
use Rattle.replica_core.specs.Replicas.{Replica}
use Rattle.replica_core.specs.Refusals.{has_dots}
use Rattle.replica_core.proofs.Sizes.{seen_fits, store_fits}
use Rattle.replica_core.proofs.Dots.{not_empty}
use Rattle.replica_core.proofs.replica.Replica.has_delta.Goals as goal

pub returns : goal.returns
returns g c =
    not_empty c.delta_seen.result.now c.is_empty.result c.is_empty.ensures ∙ ap has_dots c.delta_seen.ensures
    ∙ ap (λ (r : Replica). has_dots r.delta.seen) c.self.view_is

pub delta_seen-requires : goal.delta_seen-requires
delta_seen-requires g c = (store_fits g.row.A g.A.Allocator (search tt), seen_fits g.row.A g.A.Allocator (search tt))

pub is_empty-requires : goal.is_empty-requires
is_empty-requires g c = seen_fits g.row.A g.A.Allocator (search tt)
