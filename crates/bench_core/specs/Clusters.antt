-- A cluster of nodes, and one step of one of them.
use Rattle.std.specs.Prelude.{ℕ, zero, suc, ◌+◌, nat_lt, if◌then◌else◌, List, [], ◌∷◌, length, slice_get, slice_set, Option, Some, None, Result, Ok, Err}
use Rattle.std.specs.List.{list_all}
use Rattle.payload_core.specs.Messages.{Message, numbered}
use Rattle.node_core.specs.declared.step_fault.StepFault.{StepFault}
use Rattle.node_core.specs.declared.step_fault.StepFault.TheVariants as step_faults
use Rattle.bench_core.specs.declared.fault.Fault.{Fault}
use Rattle.bench_core.specs.declared.fault.Fault.TheVariants.{OwnReplica, NotKnown, NotDown, AlreadyTracked, NotTracked, NothingToSend, EntriesFull}
use Rattle.bench_core.specs.declared.fault.Fault.TheVariants.{ClockFull, OwnMessage, NoSuchMessage, NotRequest, IsRequest, OutboxFull, UnknownNode, OutOfMemory}
use Rattle.replica_core.specs.declared.node_limits.NodeLimits.{NodeLimits}
use Rattle.node_core.specs.Operations.{Operation, delivers, named_in}
use Rattle.node_core.specs.Nodes.{Node, opening_node, take}

-- the nodes by number
abbrev pub Cluster : Type 0
Cluster = List Node

abbrev pub opening_from : NodeLimits → ℕ → ℕ → Cluster
opening_from l first zero = []
opening_from l first (suc count) = opening_node first l ∷ opening_from l (first + 1) count

-- `count` empty nodes
abbrev pub opening_of : NodeLimits → ℕ → Cluster
opening_of l count = opening_from l 0 count

abbrev pub outbox_of : Option Node → List Message
outbox_of None = []
outbox_of (Some node) = node.outbox

abbrev pub message_at : Cluster → Option (ℕ × ℕ) → Option Message
message_at c None = None
message_at c (Some m) = numbered (outbox_of (slice_get c m.0)) m.1

-- the message that a step delivers
abbrev pub message_for : Cluster → Operation → Option Message
message_for c s = message_at c (delivers s)

-- a node's fault as a fault of the bench
abbrev pub fault_of : StepFault → Fault
fault_of step_faults.OwnReplica = OwnReplica
fault_of step_faults.NotKnown = NotKnown
fault_of step_faults.NotDown = NotDown
fault_of step_faults.AlreadyTracked = AlreadyTracked
fault_of step_faults.NotTracked = NotTracked
fault_of step_faults.NothingToSend = NothingToSend
fault_of step_faults.EntriesFull = EntriesFull
fault_of step_faults.ClockFull = ClockFull
fault_of step_faults.OwnMessage = OwnMessage
fault_of step_faults.NoSuchMessage = NoSuchMessage
fault_of step_faults.NotRequest = NotRequest
fault_of step_faults.IsRequest = IsRequest
fault_of step_faults.OutboxFull = OutboxFull
fault_of step_faults.OutOfMemory = OutOfMemory

abbrev pub of_node : Result Node StepFault → Result Node Fault
of_node (Ok n) = Ok n
of_node (Err e) = Err (fault_of e)

-- what a node of a cluster of `count` nodes becomes by a step, or the fault, which is UnknownNode if the node, or one that the step names,
-- isn't there
abbrev pub node_step : ℕ → Option Node → Operation → Option Message → Result Node Fault
node_step count None s m = Err UnknownNode
node_step count (Some node) s m = if list_all (λ k. nat_lt k count) (named_in s) then of_node (take node s m) else Err UnknownNode

abbrev pub with_node : Cluster → ℕ → Result Node Fault → Result Cluster Fault
with_node c n (Ok node) = Ok (slice_set c n node)
with_node c n (Err e) = Err e

-- the cluster in which node n alone has taken the step, or the fault
abbrev pub step : Cluster → ℕ → Operation → Result Cluster Fault
step c n s = with_node c n (node_step (length c) (slice_get c n) s (message_for c s))
