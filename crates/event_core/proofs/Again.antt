-- The JSON of an event is read as that event.
use Rattle.std.proofs.Common.{◌≡◌, Some, refl}
use Rattle.node_core.specs.Operations.{Join, Leave, LeaveAll, Update, Broadcast, Extract, Deliver, Request, Answer, Up, Down, Permdown}
use Rattle.bench_core.specs.declared.reply.Reply.{Reply}
use Rattle.bench_core.specs.declared.reply.Reply.TheVariants.{Taken, Undone, Refused}
use Rattle.bench_core.specs.declared.fault.Fault.{Fault}
use Rattle.bench_core.specs.declared.fault.Fault.TheVariants.{OwnReplica, NotKnown, NotDown, AlreadyTracked, NotTracked, NothingToSend, EntriesFull}
use Rattle.bench_core.specs.declared.fault.Fault.TheVariants.{ClockFull, OwnMessage, NoSuchMessage, NotRequest, IsRequest, OutboxFull, UnknownNode, NoSuchStep, AlreadyUndone}
use Rattle.bench_core.specs.declared.fault.Fault.TheVariants.{NothingToUndo, HasConsequence, HistoryFull, OutOfMemory}
use Rattle.bench_core.specs.Acts.{Action, Do, Undo, Back}
use Rattle.bench_core.specs.Machine.{Event}
use Rattle.event_core.specs.Format.{act_json, reply_json, event_json}
use Rattle.event_core.specs.Decoding.{presence_at, leave_at, leave_all_at, extract_at, sent_at, name_at, status_at, message_at, tracking_at, step_at}
use Rattle.event_core.specs.Decoding.{undo_at, back_at, act_at, consequence_at, fault_at, counted_at, reply_at, event_at}
use Rattle.event_core.specs.Told.{IsAction, IsRecordedFault, IsRecordedReply, IsTold}
use Rattle.event_core.proofs.Numbers.{names_again}

act_again : (a : Action) → IsAction a → act_at (act_json a) ≡ Some a
unfolding act_at step_at tracking_at message_at status_at presence_at leave_at leave_all_at extract_at sent_at name_at undo_at back_at
act_again (Do (Join p)) h = rw (h.0, h.1, h.2) refl
act_again (Do (Leave pid topic key)) h = rw (h.0, h.1) refl
act_again (Do (LeaveAll pid)) h = refl
act_again (Do (Update p)) h = rw (h.0, h.1, h.2) refl
act_again (Do Broadcast) h = refl
act_again (Do (Extract names)) h = rw (names_again names h) refl
act_again (Do (Deliver sender k)) h = rw h refl
act_again (Do Request) h = refl
act_again (Do (Answer sender k)) h = rw h refl
act_again (Do (Up name)) h = rw h refl
act_again (Do (Down name)) h = rw h refl
act_again (Do (Permdown name)) h = rw h refl
act_again (Undo k) h = refl
act_again (Back n) h = rw h refl

fault_again : (fault : Fault) → IsRecordedFault fault → reply_at (reply_json (Refused fault)) ≡ Some (Refused fault)
unfolding reply_at fault_at consequence_at
fault_again OwnReplica h = refl
fault_again NotKnown h = refl
fault_again NotDown h = refl
fault_again AlreadyTracked h = refl
fault_again NotTracked h = refl
fault_again NothingToSend h = refl
fault_again EntriesFull h = refl
fault_again ClockFull h = refl
fault_again OwnMessage h = refl
fault_again NoSuchMessage h = refl
fault_again NotRequest h = refl
fault_again IsRequest h = refl
fault_again OutboxFull h = refl
fault_again UnknownNode h = refl
fault_again NoSuchStep h = refl
fault_again AlreadyUndone h = refl
fault_again NothingToUndo h = refl
fault_again (HasConsequence step held_by) h = refl
fault_again HistoryFull h = absurd h
fault_again OutOfMemory h = absurd h

reply_again : (r : Reply) → IsRecordedReply r → reply_at (reply_json r) ≡ Some r
unfolding reply_at counted_at
reply_again (Taken n) h = refl
reply_again (Undone n) h = refl
reply_again (Refused fault) h = fault_again fault h

pub event_again : (e : Event) → IsTold e → event_at (event_json e) ≡ Some e
unfolding event_at
event_again e told = rw (told.0.0, act_again e.act told.0.1, reply_again e.reply told.1) refl
