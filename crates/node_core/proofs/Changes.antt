-- A step that changes the replica alone: what it keeps, and that it leads back.
use Rattle.std.proofs.Common.{◌≡◌, ℕ, List, [], ◌∷◌, length, ◌≤◌, Option, None, Ok, refl, sym, ap, ◌∙◌, subst}
use Rattle.dots_core.specs.declared.dot.Dot.{Dot}
use Rattle.payload_core.specs.Messages.{Message}
use Rattle.replica_core.specs.declared.node_limits.NodeLimits.{NodeLimits}
use Rattle.replica_core.specs.declared.replica_fault.ReplicaFault.{ReplicaFault}
use Rattle.replica_core.specs.Replicas.{Replica, dots_of_process, joined, left, left_each, dropped, dropped_each, with_status, forgotten}
use Rattle.replica_core.specs.Invariant.{IsReplica}
use Rattle.replica_core.specs.Changes as changes
use Rattle.replica_core.specs.Changes.{OfJoin, OfLeave, OfLeaveAll, OfUpdate, OfUp, OfDown, OfPermdown, OfDeliver}
use Rattle.replica_core.specs.Deliveries.{merged}
use Rattle.replica_core.specs.declared.status.Status.TheVariants.{Up, Down}
use Rattle.node_core.specs.Operations.{Operation}
use Rattle.node_core.specs.Nodes.{Node, with_replica, unless, take}
use Rattle.node_core.specs.Invariant.{AreMessagesOf, IsNode}
use Rattle.node_core.specs.Inverses.{OfChange, LeadsBack}

-- the name and the limits are the same
pub record Stays (a b : Replica) : Type 0 where
  pub own : b.own ≡ a.own
  pub limits : b.limits ≡ a.limits

after : (a b c : Replica) → c ≡ b → Stays a b → Stays a c
after a b c is stays =
    record { own = ap (λ (r : Replica). r.own) is ∙ stays.own; limits = ap (λ (r : Replica). r.limits) is ∙ stays.limits }

pub through_leaves : (ds : List Dot) (r : Replica) → Stays r (left_each ds r)
through_leaves [] r = record { own = refl; limits = refl }
through_leaves (d ∷ ds) r =
    let rest = through_leaves ds (left d r) in
    record { own = rest.own; limits = rest.limits }

pub through_drops : (ds : List Dot) (r : Replica) → Stays r (dropped_each ds r)
through_drops [] r = record { own = refl; limits = refl }
through_drops (d ∷ ds) r =
    let rest = through_drops ds (dropped d r) in
    record { own = rest.own; limits = rest.limits }

-- no call changes the name or the limits
stays : (change : changes.Change) (a b : Replica) → changes.IsCallOf change a b → Stays a b
stays OfJoin a b call = after a (joined call.presence a) b call.gives (record { own = refl; limits = refl })
stays (OfLeave l) a b call = after a (left call.dot a) b call.gives (record { own = refl; limits = refl })
stays (OfLeaveAll ls) a b call =
    after a (left_each (dots_of_process a call.pid) a) b call.gives (through_leaves (dots_of_process a call.pid) a)
stays (OfUpdate l) a b call =
    after a (joined call.presence (dropped call.dot a)) b call.gives (record { own = refl; limits = refl })
stays (OfUp name before) a b call = after a (with_status name Up a) b call.gives (record { own = refl; limits = refl })
stays (OfDown name before) a b call = after a (with_status name Down a) b call.gives (record { own = refl; limits = refl })
stays (OfPermdown name f) a b call = after a (forgotten name a) b call.gives (record { own = refl; limits = refl })
stays (OfDeliver d) a b call = after a (merged call.message a) b call.gives (record { own = refl; limits = refl })

pub limits_stay : (change : changes.Change) (a b : Replica) → changes.IsCallOf change a b → b.limits ≡ a.limits
limits_stay change a b call = (stays change a b call).limits

-- the node keeps what each node keeps, and its outbox the limit that it had
pub changed_kept : (before : Node) (now : Replica) (change : changes.Change) (limit : ℕ) →
    IsNode before → limit ≡ before.replica.limits.messages → changes.ChangeLeadsBack change now before.replica → IsReplica now →
    IsNode (with_replica before now) × (limit ≡ now.limits.messages)
changed_kept before now change limit kept same leads whole =
    let parts = stays change before.replica now leads.call in (
      record {
        replica = whole;
        few = subst (λ (l : NodeLimits). length before.outbox ≤ l.messages) (sym parts.limits) kept.few;
        messages = subst (λ own. AreMessagesOf own before.outbox) (sym parts.own) kept.messages;
      },
      same ∙ ap (λ (l : NodeLimits). l.messages) (sym parts.limits),
    )

-- where the replica doesn't refuse, the node is there
accepted : (cause : Option ReplicaFault) (gives n : Node) → cause ≡ None → n ≡ gives → unless cause gives ≡ Ok n
accepted cause gives n free is = ap (λ c. unless c gives) free ∙ ap (λ (n : Node). Ok n) (sym is)

-- the step leads back by its change; `before` is the node as its parts say it
module _ (before n : Node) (s : Operation) (m : Option Message) (cause : Option ReplicaFault) (gives now : Replica)
    (kept : IsNode before) (takes : take before s m ≡ unless cause (with_replica before gives)) (free : cause ≡ None) (is : now ≡ gives)
  where
    taken : take before s m ≡ Ok (with_replica before now)
    taken = takes ∙ accepted cause (with_replica before gives) (with_replica before now) free (ap (with_replica before) is)

    pub changed : (change : changes.Change) → before ≡ n → changes.ChangeLeadsBack change now before.replica →
        (take n s m ≡ Ok (with_replica before now)) × LeadsBack (OfChange change) (with_replica before now) n
    changed change same leads =
        subst (λ n. (take n s m ≡ Ok (with_replica before now)) × LeadsBack (OfChange change) (with_replica before now) n) same
        (taken, record { operation = s; message = m; taken = taken; names = (leads, refl); earlier = kept })
