use Rattle.std.proofs.Common.{ap, subst, sym, ◌∙◌}
use Rattle.std.proofs.lemmas.Result.{err_from_is_err_and}
use Rattle.std.specs.FinMap as fin
use Rattle.payload_core.specs.Presences.{Presence}
use Rattle.store_core.specs.LeftEntries.{Stood}
use Rattle.replica_core.specs.Invariant.{IsReplica}
use Rattle.replica_core.specs.Refusals.{is_clock_full}
use Rattle.replica_core.specs.Replicas.{Replica, dropped, joined, tracked_dots}
use Rattle.replica_core.proofs.Calls.{refused_memory, leave_free}
use Rattle.replica_core.proofs.Left.{kept_updated, updated_at}
use Rattle.replica_core.proofs.StoreParts.{replica_of, room_for_one}
use Rattle.replica_core.proofs.Sizes.{store_fits}
use Rattle.replica_core.proofs.replica.Replica.update.Goals as goal

pub update-requires : goal.update-requires
update-requires g c = (
  store_fits g.row.A g.A.Allocator (search tt),
  (
    c.in_ok-dot.ensures.own.0.0 ∙ ap (λ (r : Replica). r.own) (sym c.self.view_is),
    (
      ap (λ (r : Replica). fin.contains_key r.store.entries c.in_ok-dot.dot) c.self.view_is ∙ c.in_ok-dot.ensures.live,
      room_for_one _ c.args.self.now c.self.view_is c.self.invariant
          (leave_free c.args.self.now c.args.pid c.args.topic.now c.args.key.now c.in_ok-dot.ensures.refused),
    ),
  ),
)

pub invariant_of-self-2 : goal.invariant_of-self-2
invariant_of-self-2 g c =
    let p : Presence = record { pid = c.args.pid; topic = c.args.topic.now; key = c.args.key.now; metadata = c.args.metadata.now } in
    let r = replica_of c.self.inside.limits c.self.inside.view c.self.inside.stores in
    rw c.in_ok-left.ensures.updated
    (kept_updated p r c.in_ok-dot.dot
    (ap (λ (r : Replica). tracked_dots r c.args.pid c.args.topic.now c.args.key.now) c.self.view_is ∙ c.in_ok-dot.ensures.dot) c.self.invariant
    (ap (λ (r : Replica). is_clock_full r 1) c.self.view_is
    ∙ leave_free c.args.self.now c.args.pid c.args.topic.now c.args.key.now c.in_ok-dot.ensures.refused))

pub invariant_of-self : goal.invariant_of-self
invariant_of-self g c = rw c.in_err-left.ensures.err c.self.invariant

pub returns-clause-updated : goal.returns-clause-updated
returns-clause-updated g c =
    let p : Presence = record { pid = c.args.pid; topic = c.args.topic.now; key = c.args.key.now; metadata = c.args.metadata.now } in
    ap (replica_of c.self.inside.limits c.self.inside.view) c.in_ok-left.ensures.updated
    ∙ ap (λ r. joined p (dropped c.in_ok-dot.dot r)) c.self.view_is
    ∙ sym (updated_at p c.args.self.now c.in_ok-dot.dot c.in_ok-dot.ensures.dot)

pub returns-clause-leads_back : goal.returns-clause-leads_back
returns-clause-leads_back g c =
    let p : Presence = record { pid = c.args.pid; topic = c.args.topic.now; key = c.args.key.now; metadata = c.args.metadata.now } in
    record {
      call = record {
        presence = p;
        dot = c.in_ok-dot.dot;
        accepted = c.in_ok-dot.ensures.refused;
        tracked = c.in_ok-dot.ensures.dot;
        stood = subst (λ (r : Replica). Stood c.in_ok-left.left.value c.in_ok-dot.dot r.store r.delta) c.self.view_is c.in_ok-left.ensures.stood;
        gives = ap (replica_of c.self.inside.limits c.self.inside.view) c.in_ok-left.ensures.updated
            ∙ ap (λ r. joined p (dropped c.in_ok-dot.dot r)) c.self.view_is;
      };
      earlier = subst IsReplica c.self.view_is c.self.invariant;
    }

pub returns-in_err-dot-clause-refused : goal.returns-in_err-dot-clause-refused
returns-in_err-dot-clause-refused g c =
    let failed = err_from_is_err_and c.from_residual.result c.from_residual.ensures.1 in
    rw (failed.1, failed.2) c.in_err-dot.ensures.refused

-- its own requirement is that of the call
pub leaving_dot-requires : goal.leaving_dot-requires
leaving_dot-requires g c = search tt

pub returns-in_err-left-clause-refused : goal.returns-in_err-left-clause-refused
returns-in_err-left-clause-refused g c = refused_memory _ c.from_residual-in_err-left.result c.from_residual-in_err-left.ensures.1
