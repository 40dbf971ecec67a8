-- What an accepted step does to the outbox of its node, what it read, and that the node keeps its name and limits. Here alone the
-- steps are told apart.
use Rattle.std.proofs.Common.{◌≡◌, ℕ, ◌==◌, Bool, true, false, if◌then◌else◌, List, [], ◌∷◌, ◌++◌, Option, Some, None, Ok, Err, refl, sym, ap, ◌∙◌, subst}
use Rattle.std.specs.FinSet as set
use Rattle.dots_core.specs.Names.{Names}
use Rattle.payload_core.specs.Messages.{Message, message_of_names}
use Rattle.replica_core.specs.declared.replica_fault.ReplicaFault.{ReplicaFault}
use Rattle.replica_core.specs.declared.status.Status.TheVariants as statuses
use Rattle.replica_core.specs.Replicas.{Replica, tracked_dots, dots_of_process, joined, left_each, updated, with_status, forgotten, delta_message}
use Rattle.replica_core.specs.Replicas.{request_of, without_delta}
use Rattle.replica_core.specs.Deliveries.{merged}
use Rattle.replica_core.specs.Refusals.{join_refusal, leave_refusal, leave_all_refusal, merge_refusal, up_refusal, down_refusal, permdown_refusal, has_dots}
use Rattle.node_core.specs.declared.step_fault.StepFault.TheVariants.{OwnMessage, OutboxFull}
use Rattle.node_core.specs.Operations.{Operation, Join, Leave, LeaveAll, Update, Broadcast, Extract, Deliver, Request, Answer, Up, Down, Permdown, delivers, sends}
use Rattle.node_core.specs.Nodes.{Node, with_replica, with_sent, is_outbox_full, unless, unless_full, broadcast, deliver, deliver_unasked}
use Rattle.node_core.specs.Nodes.{answer, answer_asked, take}
use Rattle.node_core.proofs.Changes.{Stays, through_leaves, through_drops}

-- what a step does to the outbox
abbrev pub Posts : Bool → List Message → List Message → Type 0
Posts true xs ys = (m : Message) × (ys ≡ xs ++ m ∷ [])
Posts false xs ys = ys ≡ xs

-- what a step that was accepted delivers was there
abbrev pub WasRead : Option (ℕ × ℕ) → Option Message → Type 0
WasRead None m = Unit {0}
WasRead (Some at) m = (message : Message) × (m ≡ Some message)

record Took (n : Node) (s : Operation) (m : Option Message) (y : Node) : Type 0 where
  posts : Posts (sends s) n.outbox y.outbox
  was_read : WasRead (delivers s) m
  owns : y.replica.own ≡ n.replica.own
  limits : y.replica.limits ≡ n.replica.limits

pub unless_ok : (cause : Option ReplicaFault) (gives y : Node) → unless cause gives ≡ Ok y → y ≡ gives
unless_ok None gives y h = cc
unless_ok (Some fault) gives y h = absurd (cc)

pub unless_full_ok : (n gives y : Node) → unless_full n gives ≡ Ok y → y ≡ gives
unless_full_ok n gives y h = go (is_outbox_full n) h
  where
    go : (b : Bool) → (if b then Err OutboxFull else Ok gives) ≡ Ok y → y ≡ gives
    go true h = absurd (cc)
    go false h = cc

pub broadcast_ok : (some : Bool) (n y : Node) → broadcast some n ≡ Ok y → y ≡ with_sent n (delta_message n.replica) (without_delta n.replica)
broadcast_ok true n y h = unless_full_ok n (with_sent n (delta_message n.replica) (without_delta n.replica)) y h
broadcast_ok false n y h = absurd (cc)

pub deliver_ok : (own : Bool) (n : Node) (m : Option Message) (y : Node) → (if own then Err OwnMessage else deliver n m) ≡ Ok y →
    (message : Message) × (m ≡ Some message) × (y ≡ with_replica n (merged message n.replica))
deliver_ok true n m y h = absurd (cc)
deliver_ok false n None y h = absurd (cc)
deliver_ok false n (Some m) y h = (m, refl, go m.asked h)
  where
    go : (asked : Option Names) → deliver_unasked asked n m ≡ Ok y → y ≡ with_replica n (merged m n.replica)
    go None h = unless_ok (merge_refusal n.replica m) (with_replica n (merged m n.replica)) y h
    go (Some names) h = absurd (cc)

-- what a node sends of these names
abbrev pub extract_of : Node → Names → Message
extract_of n names = message_of_names (set.contains names) n.replica.own n.replica.store.seen n.replica.store.entries

-- an answer that was accepted sends what an extract of the names sends that it was asked for
pub answer_ok : (own : Bool) (n : Node) (m : Option Message) (y : Node) → (if own then Err OwnMessage else answer n m) ≡ Ok y →
    (message : Message) × (m ≡ Some message) × ((names : Names) × (y ≡ with_sent n (extract_of n names) n.replica))
answer_ok true n m y h = absurd (cc)
answer_ok false n None y h = absurd (cc)
answer_ok false n (Some m) y h = (m, refl, go m.asked h)
  where
    go : (asked : Option Names) → answer_asked asked n ≡ Ok y → (names : Names) × (y ≡ with_sent n (extract_of n names) n.replica)
    go None h = absurd (cc)
    go (Some names) h = (names, unless_full_ok n (with_sent n (extract_of n names) n.replica) y h)

outbox_at : (y z : Node) → y ≡ z → y.outbox ≡ z.outbox
outbox_at y z e = ap (λ (x : Node). x.outbox) e

own_at : (y z : Node) → y ≡ z → y.replica.own ≡ z.replica.own
own_at y z e = ap (λ (x : Node). x.replica.own) e

limits_at : (y z : Node) → y ≡ z → y.replica.limits ≡ z.replica.limits
limits_at y z e = ap (λ (x : Node). x.replica.limits) e

-- a step that changes the replica alone
alone : (n : Node) (s : Operation) (m : Option Message) (y : Node) (cause : Option ReplicaFault) (r : Replica) →
    sends s ≡ false → delivers s ≡ None → Stays n.replica r → unless cause (with_replica n r) ≡ Ok y → Took n s m y
alone n s m y cause r silent unread stays h =
    let e = unless_ok cause (with_replica n r) y h in
    record {
      posts = subst (λ b. Posts b n.outbox y.outbox) (sym silent) (outbox_at y (with_replica n r) e);
      was_read = subst (λ at. WasRead at m) (sym unread) tt;
      owns = own_at y (with_replica n r) e ∙ stays.own;
      limits = limits_at y (with_replica n r) e ∙ stays.limits;
    }

took : (n : Node) (s : Operation) (m : Option Message) (y : Node) → take n s m ≡ Ok y → Took n s m y
took n (Join p) m y h =
    alone n (Join p) m y (join_refusal n.replica p.pid p.topic p.key) (joined p n.replica) refl refl (record { own = refl; limits = refl })
    h
took n (Leave pid topic key) m y h =
    let dots = tracked_dots n.replica pid topic key in
    alone n (Leave pid topic key) m y (leave_refusal n.replica pid topic key) (left_each dots n.replica) refl refl
    (through_leaves dots n.replica) h
took n (LeaveAll pid) m y h =
    let dots = dots_of_process n.replica pid in
    alone n (LeaveAll pid) m y (leave_all_refusal n.replica pid) (left_each dots n.replica) refl refl (through_leaves dots n.replica) h
took n (Update p) m y h =
    let drops = through_drops (tracked_dots n.replica p.pid p.topic p.key) n.replica in
    alone n (Update p) m y (leave_refusal n.replica p.pid p.topic p.key) (updated p n.replica) refl refl
    (record { own = drops.own; limits = drops.limits }) h
took n Broadcast m y h =
    let gives = with_sent n (delta_message n.replica) (without_delta n.replica) in
    let e = broadcast_ok (has_dots n.replica.delta.seen) n y h in
    record { posts = (delta_message n.replica, outbox_at y gives e); was_read = tt; owns = own_at y gives e; limits = limits_at y gives e }
took n (Extract names) m y h =
    let gives = with_sent n (extract_of n names) n.replica in
    let e = unless_full_ok n gives y h in
    record { posts = (extract_of n names, outbox_at y gives e); was_read = tt; owns = own_at y gives e; limits = limits_at y gives e }
took n (Deliver sender number) m y h =
    let d = deliver_ok (sender == n.replica.own) n m y h in
    let gives = with_replica n (merged d.0 n.replica) in
    record { posts = outbox_at y gives d.2; was_read = (d.0, d.1); owns = own_at y gives d.2; limits = limits_at y gives d.2 }
took n Request m y h =
    let gives = with_sent n (request_of n.replica) n.replica in
    let e = unless_full_ok n gives y h in
    record { posts = (request_of n.replica, outbox_at y gives e); was_read = tt; owns = own_at y gives e; limits = limits_at y gives e }
took n (Answer sender number) m y h =
    let a = answer_ok (sender == n.replica.own) n m y h in
    let gives = with_sent n (extract_of n a.2.0) n.replica in
    record { posts = (extract_of n a.2.0, outbox_at y gives a.2.1); was_read = (a.0, a.1); owns = own_at y gives a.2.1; limits = limits_at y gives a.2.1 }
took n (Up name) m y h =
    alone n (Up name) m y (up_refusal n.replica name) (with_status name statuses.Up n.replica) refl refl
    (record { own = refl; limits = refl }) h
took n (Down name) m y h =
    alone n (Down name) m y (down_refusal n.replica name) (with_status name statuses.Down n.replica) refl refl
    (record { own = refl; limits = refl }) h
took n (Permdown name) m y h =
    alone n (Permdown name) m y (permdown_refusal n.replica name) (forgotten name n.replica) refl refl
    (record { own = refl; limits = refl }) h

pub posts : (n : Node) (s : Operation) (m : Option Message) (y : Node) → take n s m ≡ Ok y → Posts (sends s) n.outbox y.outbox
posts n s m y h = (took n s m y h).posts

pub was_read : (n : Node) (s : Operation) (m : Option Message) (y : Node) → take n s m ≡ Ok y → WasRead (delivers s) m
was_read n s m y h = (took n s m y h).was_read

-- a node keeps its name
pub owns : (n : Node) (s : Operation) (m : Option Message) (y : Node) → take n s m ≡ Ok y → y.replica.own ≡ n.replica.own
owns n s m y h = (took n s m y h).owns

-- and its limits
pub keeps_limits : (n : Node) (s : Operation) (m : Option Message) (y : Node) → take n s m ≡ Ok y → y.replica.limits ≡ n.replica.limits
keeps_limits n s m y h = (took n s m y h).limits
