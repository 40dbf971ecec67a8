use Rattle.std.proofs.Common.{ap, sym, subst, ◌∙◌}
use Rattle.replica_core.specs.Replicas.{Replica, CanBeDelta, with_delta}
use Rattle.replica_core.proofs.Invariant.{kept_with_delta}
use Rattle.replica_core.proofs.StoreParts.{replica_of}
use Rattle.replica_core.proofs.Sizes.{store_fits}
use Rattle.replica_core.proofs.replica.Replica.give_delta.Goals as goal

pub invariant_of-self : goal.invariant_of-self
invariant_of-self g c =
    let r = replica_of c.self.inside.limits c.self.inside.view c.self.inside.stores in
    rw c.give_delta.ensures
    (kept_with_delta c.args.payload r c.self.invariant c.entries.ensures.are_seen
    (subst (λ (r : Replica). CanBeDelta c.args.payload r) (sym c.self.view_is) c.requires))

pub give_delta-requires : goal.give_delta-requires
give_delta-requires g c =
    let can = subst (λ (r : Replica). CanBeDelta c.args.payload r) (sym c.self.view_is) c.requires in
    (store_fits g.row.A g.A.Allocator (search tt), (search tt, record { own = can.own; live = can.live }))

pub returns : goal.returns
returns g c =
    ap (replica_of c.self.inside.limits c.self.inside.view) c.give_delta.ensures ∙ ap (with_delta c.args.payload) c.self.view_is
