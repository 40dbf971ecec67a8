-- The names of faults, as a report prints them, and their numbers, as a session has them.
use Rattle.std.specs.Prelude.{ℕ, List, ◌++◌, codes, decimal}
use Rattle.bench_core.specs.declared.fault.Fault.{Fault}
use Rattle.bench_core.specs.declared.fault.Fault.TheVariants.{OwnReplica, NotKnown, NotDown, AlreadyTracked, NotTracked, NothingToSend, EntriesFull}
use Rattle.bench_core.specs.declared.fault.Fault.TheVariants.{ClockFull, OwnMessage, NoSuchMessage, NotRequest, IsRequest, OutboxFull, UnknownNode}
use Rattle.bench_core.specs.declared.fault.Fault.TheVariants.{NoSuchStep, AlreadyUndone, NothingToUndo, HasConsequence, HistoryFull, OutOfMemory}

-- the fault's name; behind HasConsequence also the number of the step, and that of the step that holds it
abbrev pub fault_text : Fault → List ℕ
fault_text OwnReplica = codes "OwnReplica"
fault_text NotKnown = codes "NotKnown"
fault_text NotDown = codes "NotDown"
fault_text AlreadyTracked = codes "AlreadyTracked"
fault_text NotTracked = codes "NotTracked"
fault_text NothingToSend = codes "NothingToSend"
fault_text EntriesFull = codes "EntriesFull"
fault_text ClockFull = codes "ClockFull"
fault_text OwnMessage = codes "OwnMessage"
fault_text NoSuchMessage = codes "NoSuchMessage"
fault_text NotRequest = codes "NotRequest"
fault_text IsRequest = codes "IsRequest"
fault_text OutboxFull = codes "OutboxFull"
fault_text UnknownNode = codes "UnknownNode"
fault_text NoSuchStep = codes "NoSuchStep"
fault_text AlreadyUndone = codes "AlreadyUndone"
fault_text NothingToUndo = codes "NothingToUndo"
fault_text (HasConsequence step held_by) = codes "HasConsequence " ++ decimal step ++ codes " by " ++ decimal held_by
fault_text HistoryFull = codes "HistoryFull"
fault_text OutOfMemory = codes "OutOfMemory"

-- the fault's number
abbrev pub code_of : Fault → ℕ
code_of OwnReplica = 1
code_of NotKnown = 2
code_of NotDown = 3
code_of AlreadyTracked = 4
code_of NotTracked = 5
code_of NothingToSend = 6
code_of EntriesFull = 7
code_of ClockFull = 8
code_of OwnMessage = 9
code_of NoSuchMessage = 10
code_of OutboxFull = 11
code_of UnknownNode = 12
code_of NoSuchStep = 13
code_of AlreadyUndone = 14
code_of NothingToUndo = 15
code_of (HasConsequence step held_by) = 16
code_of HistoryFull = 17
code_of NotRequest = 18
code_of IsRequest = 19
code_of OutOfMemory = 20
