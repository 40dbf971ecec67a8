use Rattle.std.proofs.Common.{◌∙◌, ap}
use Rattle.replica_core.specs.Replicas.{Replica}
use Rattle.replica_core.proofs.Sizes.{store_fits}
use Rattle.replica_core.proofs.replica.Replica.entries.Goals as goal

pub returns : goal.returns
returns g c = c.entries.ensures ∙ ap (λ (r : Replica). r.store.entries) c.self.view_is

pub entries-requires : goal.entries-requires
entries-requires g c = store_fits g.row.A g.A.Allocator (search tt)
