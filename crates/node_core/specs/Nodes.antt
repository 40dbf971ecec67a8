-- A node, and one step of it (Phoenix.Tracker.State, as sets, with numbered messages).
use Rattle.std.specs.Prelude.{ℕ, ◌==◌, not, nat_lt, Bool, true, false, if◌then◌else◌, List, [], ◌∷◌, ◌++◌, length, Option, None, Some, Result, Ok, Err}
use Rattle.std.specs.Prelude.{refl}
use Rattle.std.specs.Coded.{Coded, code_by, coded×, coded_list}
use Rattle.std.specs.FinSet as set
use Rattle.dots_core.specs.Names.{Names}
use Rattle.payload_core.specs.Messages.{Message, message_code, message_of_names}
use Rattle.replica_core.specs.declared.node_limits.NodeLimits.{NodeLimits}
use Rattle.replica_core.specs.declared.replica_fault.ReplicaFault.{ReplicaFault}
use Rattle.replica_core.specs.declared.status.Status.TheVariants as statuses
use Rattle.replica_core.specs.Replicas.{Replica, replica_code, tracked_dots, dots_of_process, opening, joined, left_each, updated, with_status, forgotten}
use Rattle.replica_core.specs.Replicas.{delta_message, request_of, without_delta}
use Rattle.replica_core.specs.Deliveries.{merged}
use Rattle.replica_core.specs.Refusals.{join_refusal, leave_refusal, leave_all_refusal, merge_refusal, up_refusal, down_refusal, permdown_refusal, has_dots}
use Rattle.node_core.specs.declared.step_fault.StepFault.{StepFault}
use Rattle.node_core.specs.declared.step_fault.StepFault.TheVariants.{NothingToSend, OwnMessage, NoSuchMessage, NotRequest, IsRequest, OutboxFull}
use Rattle.node_core.specs.Faults.{step_fault_of}
use Rattle.node_core.specs.Operations.{Operation, Join, Leave, LeaveAll, Update, Broadcast, Extract, Deliver, Request, Answer, Up, Down, Permdown}

-- a replica, and the messages that it sent, by number from 1
pub record Node : Type 0 where
  pub replica : Replica
  pub outbox : List Message

abbrev pub node_code : Coded Node
node_code =
    code_by (Replica × List Message) (coded× replica_code (coded_list message_code)) (λ n. (n.replica, n.outbox))
    (λ t. record { replica = t.0; outbox = t.1 }) (λ _. refl)

abbrev pub opening_node : ℕ → NodeLimits → Node
opening_node own limits = record { replica = opening own limits; outbox = [] }

abbrev pub with_replica : Node → Replica → Node
with_replica n r = record { replica = r; outbox = n.outbox }

-- the node after a send: this message is the last of its outbox, and this is its replica
abbrev pub with_sent : Node → Message → Replica → Node
with_sent n m r = record { replica = r; outbox = n.outbox ++ m ∷ [] }

abbrev pub is_outbox_full : Node → Bool
is_outbox_full n = not (nat_lt (length n.outbox) n.replica.limits.messages)

-- the node, unless the replica refuses
abbrev pub unless : Option ReplicaFault → Node → Result Node StepFault
unless None n = Ok n
unless (Some fault) n = Err (step_fault_of fault)

-- the node after a send, unless the outbox is full
abbrev pub unless_full : Node → Node → Result Node StepFault
unless_full before after = if is_outbox_full before then Err OutboxFull else Ok after

-- a send of the delta, unless it has no dot or the outbox is full
abbrev pub broadcast : Bool → Node → Result Node StepFault
broadcast false n = Err NothingToSend
broadcast true n = unless_full n (with_sent n (delta_message n.replica) (without_delta n.replica))

-- a send of the node's seen dots and entries of these names, unless the outbox is full
abbrev pub extract : Node → Names → Result Node StepFault
extract n names = unless_full n (with_sent n (message_of_names (set.contains names) n.replica.own n.replica.store.seen n.replica.store.entries) n.replica)

-- a delivery of a message, which may ask for names; one that asks for names is a request, and is refused here
abbrev pub deliver_unasked : Option Names → Node → Message → Result Node StepFault
deliver_unasked None n m = unless (merge_refusal n.replica m) (with_replica n (merged m n.replica))
deliver_unasked (Some names) n m = Err IsRequest

-- a delivery of this message, if there is one
abbrev pub deliver : Node → Option Message → Result Node StepFault
deliver n None = Err NoSuchMessage
deliver n (Some m) = deliver_unasked m.asked n m

-- an answer to a message, which may ask for names: it sends what the answering node has of them; if the message asks for none, it is
-- refused
abbrev pub answer_asked : Option Names → Node → Result Node StepFault
answer_asked None n = Err NotRequest
answer_asked (Some names) n = extract n names

-- an answer to this message, if there is one
abbrev pub answer : Node → Option Message → Result Node StepFault
answer n None = Err NoSuchMessage
answer n (Some m) = answer_asked m.asked n

-- what a node becomes by a step, or the step's fault; a delivery and an answer get the message that they name
abbrev pub take : Node → Operation → Option Message → Result Node StepFault
take n (Join p) _ = unless (join_refusal n.replica p.pid p.topic p.key) (with_replica n (joined p n.replica))
take n (Leave pid topic key) _ =
    unless (leave_refusal n.replica pid topic key) (with_replica n (left_each (tracked_dots n.replica pid topic key) n.replica))
take n (LeaveAll pid) _ = unless (leave_all_refusal n.replica pid) (with_replica n (left_each (dots_of_process n.replica pid) n.replica))
take n (Update p) _ = unless (leave_refusal n.replica p.pid p.topic p.key) (with_replica n (updated p n.replica))
take n Broadcast _ = broadcast (has_dots n.replica.delta.seen) n
take n (Extract names) _ = extract n names
take n (Deliver sender number) m = if sender == n.replica.own then Err OwnMessage else deliver n m
take n Request _ = unless_full n (with_sent n (request_of n.replica) n.replica)
take n (Answer sender number) m = if sender == n.replica.own then Err OwnMessage else answer n m
take n (Up name) _ = unless (up_refusal n.replica name) (with_replica n (with_status name statuses.Up n.replica))
take n (Down name) _ = unless (down_refusal n.replica name) (with_replica n (with_status name statuses.Down n.replica))
take n (Permdown name) _ = unless (permdown_refusal n.replica name) (with_replica n (forgotten name n.replica))
