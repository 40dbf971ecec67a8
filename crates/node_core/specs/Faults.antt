-- A replica's fault as a fault of its node's step.
use Rattle.replica_core.specs.declared.replica_fault.ReplicaFault.{ReplicaFault}
use Rattle.replica_core.specs.declared.replica_fault.ReplicaFault.TheVariants as replica_faults
use Rattle.node_core.specs.declared.step_fault.StepFault.{StepFault}
use Rattle.node_core.specs.declared.step_fault.StepFault.TheVariants.{OwnReplica, NotKnown, NotDown, AlreadyTracked, NotTracked, NothingToSend, EntriesFull}
use Rattle.node_core.specs.declared.step_fault.StepFault.TheVariants.{ClockFull, OutOfMemory}

abbrev pub step_fault_of : ReplicaFault → StepFault
step_fault_of replica_faults.OwnReplica = OwnReplica
step_fault_of replica_faults.NotKnown = NotKnown
step_fault_of replica_faults.NotDown = NotDown
step_fault_of replica_faults.AlreadyTracked = AlreadyTracked
step_fault_of replica_faults.NotTracked = NotTracked
step_fault_of replica_faults.NothingToSend = NothingToSend
step_fault_of replica_faults.EntriesFull = EntriesFull
step_fault_of replica_faults.ClockFull = ClockFull
step_fault_of replica_faults.OutOfMemory = OutOfMemory
