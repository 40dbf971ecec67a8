use Rattle.std.proofs.Common.{refl, subst, ap, ◌∙◌}
use Rattle.std.specs.FinSet as set
use Rattle.replica_core.specs.Replicas.{Replica}
use Rattle.replica_core.specs.Views.{AreKnown}
use Rattle.replica_core.proofs.Delivered.{without_own}
use Rattle.replica_core.proofs.replica.Replica.others.Goals as goal

pub returns : goal.returns
returns g c =
    without_own c.known.result c.without.result c.args.self.now c.args.self.now refl
    (subst (λ (r : Replica). AreKnown r.view c.known.result) c.self.view_is c.known.ensures.known)
    (c.without.ensures ∙ ap (set.remove c.known.result) c.own.ensures)

pub own-requires : goal.own-requires
own-requires g c = search tt
