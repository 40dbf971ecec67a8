use Rattle.std.proofs.Common.{ap, ◌∙◌}
use Rattle.replica_core.specs.Replicas.{delta_message, without_delta}
use Rattle.replica_core.proofs.Invariant.{kept_without_delta}
use Rattle.replica_core.proofs.StoreParts.{replica_of}
use Rattle.replica_core.proofs.Sizes.{store_fits}
use Rattle.replica_core.proofs.replica.Replica.take_delta.Goals as goal

pub invariant_of-self : goal.invariant_of-self
invariant_of-self g c =
    let r = replica_of c.self.inside.limits c.self.inside.view c.self.inside.stores in
    rw c.take_delta.ensures.taken (kept_without_delta r c.self.invariant)

pub has_delta-requires : goal.has_delta-requires
has_delta-requires g c = search tt

pub take_delta-requires : goal.take_delta-requires
take_delta-requires g c = (store_fits g.row.A g.A.Allocator (search tt), search tt)

pub returns-clause-message : goal.returns-clause-message
returns-clause-message g c = c.take_delta.ensures.message ∙ ap delta_message c.self.view_is

pub returns-clause-taken : goal.returns-clause-taken
returns-clause-taken g c =
    ap (replica_of c.self.inside.limits c.self.inside.view) c.take_delta.ensures.taken ∙ ap without_delta c.self.view_is
