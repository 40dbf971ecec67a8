use Rattle.std.proofs.Common.{ap, subst, sym, ◌∙◌}
use Rattle.payload_core.specs.Presences.{Presence}
use Rattle.replica_core.specs.Invariant.{IsReplica}
use Rattle.replica_core.specs.Refusals.{join_refusal}
use Rattle.replica_core.specs.Replicas.{Replica, joined}
use Rattle.replica_core.proofs.Calls.{join_tests, refused_memory}
use Rattle.replica_core.proofs.Invariant.{kept_joined}
use Rattle.replica_core.proofs.StoreParts.{replica_of, room_for_one}
use Rattle.replica_core.proofs.Sizes.{store_fits}
use Rattle.replica_core.proofs.replica.Replica.join.Goals as goal

pub join-requires : goal.join-requires
join-requires g c = (
  store_fits g.row.A g.A.Allocator (search tt),
  room_for_one _ c.args.self.now c.self.view_is c.self.invariant
      (join_tests c.args.self.now c.args.pid c.args.topic.now c.args.key.now (sym c.join_refusal.ensures ∙ c.in_default.is)).2,
)

pub invariant_of-self-2 : goal.invariant_of-self-2
invariant_of-self-2 g c =
    let p : Presence = record { pid = c.args.pid; topic = c.args.topic.now; key = c.args.key.now; metadata = c.args.metadata.now } in
    let r = replica_of c.self.inside.limits c.self.inside.view c.self.inside.stores in
    let tests = join_tests r c.args.pid c.args.topic.now c.args.key.now
    (ap (λ (r : Replica). join_refusal r c.args.pid c.args.topic.now c.args.key.now) c.self.view_is ∙ sym c.join_refusal.ensures ∙ c.in_default.is) in
    rw c.in_ok-join.ensures.joined (kept_joined r c.self.invariant p tests.0 tests.1 tests.2)

pub invariant_of-self : goal.invariant_of-self
invariant_of-self g c = rw c.in_err-join.ensures.err c.self.invariant

pub returns-clause-joined : goal.returns-clause-joined
returns-clause-joined g c =
    let p : Presence = record { pid = c.args.pid; topic = c.args.topic.now; key = c.args.key.now; metadata = c.args.metadata.now } in
    ap (replica_of c.self.inside.limits c.self.inside.view) c.in_ok-join.ensures.joined ∙ ap (joined p) c.self.view_is

pub returns-clause-leads_back : goal.returns-clause-leads_back
returns-clause-leads_back g c =
    let p : Presence = record { pid = c.args.pid; topic = c.args.topic.now; key = c.args.key.now; metadata = c.args.metadata.now } in
    record {
      call = record {
        presence = p;
        accepted = sym c.join_refusal.ensures ∙ c.in_default.is;
        gives = ap (replica_of c.self.inside.limits c.self.inside.view) c.in_ok-join.ensures.joined ∙ ap (joined p) c.self.view_is;
      };
      earlier = subst IsReplica c.self.view_is c.self.invariant;
    }

-- its own requirement is that of the call
pub join_refusal-requires : goal.join_refusal-requires
join_refusal-requires g c = search tt

pub returns-in_err-join-clause-refused : goal.returns-in_err-join-clause-refused
returns-in_err-join-clause-refused g c = refused_memory _ c.from_residual.result c.from_residual.ensures.1
