use Rattle.std.proofs.Common.{◌∙◌, ap}
use Rattle.replica_core.specs.Replicas.{Replica}
use Rattle.replica_core.proofs.Sizes.{store_fits}
use Rattle.replica_core.proofs.replica.Replica.delta_entries.Goals as goal

pub returns : goal.returns
returns g c = c.delta_entries.ensures ∙ ap (λ (r : Replica). r.delta.entries) c.self.view_is

pub delta_entries-requires : goal.delta_entries-requires
delta_entries-requires g c = store_fits g.row.A g.A.Allocator (search tt)
