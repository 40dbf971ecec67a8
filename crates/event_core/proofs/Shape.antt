-- The JSON of an event has no float, and is not deep.
use Rattle.std.proofs.Common.{◌≡◌, ℕ, ◌≤◌, List, [], ◌∷◌, map, false, refl, arith}
use Rattle.serde_json.specs.Data.{Data, depth, items_depth}
use Rattle.serde_json.specs.View.{items_of}
use Rattle.serde_json.specs.Written.{has_float, items_have_float}
use Rattle.node_core.specs.Operations.{Operation, Join, Leave, LeaveAll, Update, Broadcast, Extract, Deliver, Request, Answer, Up, Down, Permdown}
use Rattle.bench_core.specs.declared.reply.Reply.{Reply}
use Rattle.bench_core.specs.declared.reply.Reply.TheVariants.{Taken, Undone, Refused}
use Rattle.bench_core.specs.declared.fault.Fault.{Fault}
use Rattle.bench_core.specs.declared.fault.Fault.TheVariants.{OwnReplica, NotKnown, NotDown, AlreadyTracked, NotTracked, NothingToSend, EntriesFull}
use Rattle.bench_core.specs.declared.fault.Fault.TheVariants.{ClockFull, OwnMessage, NoSuchMessage, NotRequest, IsRequest, OutboxFull, UnknownNode, NoSuchStep, AlreadyUndone}
use Rattle.bench_core.specs.declared.fault.Fault.TheVariants.{NothingToUndo, HasConsequence, HistoryFull, OutOfMemory}
use Rattle.bench_core.specs.Acts.{Action, Do, Undo, Back}
use Rattle.bench_core.specs.Machine.{Event}
use Rattle.event_core.specs.Format.{whole, numbers_of, step_data, act_json, fault_rest, reply_json, event_json}

module _ {A : Type 0} (f : A → Data) where
  pub no_float_in : ((x : A) → has_float (f x) ≡ false) → (xs : List A) → items_have_float (items_of (map f xs)) ≡ false
  no_float_in each [] = refl
  no_float_in each (x ∷ xs) = rw (each x) (no_float_in each xs)

  pub depth_in : (n : ℕ) → ((x : A) → depth (f x) ≤ n) → (xs : List A) → items_depth (items_of (map f xs)) ≤ n
  depth_in n each [] = omega arith
  depth_in n each (x ∷ xs) = omega (arith, each x, depth_in n each xs)

step_no_float : (s : Operation) → items_have_float (items_of (step_data s)) ≡ false
step_no_float (Join p) = refl
step_no_float (Leave pid topic key) = refl
step_no_float (LeaveAll pid) = refl
step_no_float (Update p) = refl
step_no_float Broadcast = refl
step_no_float (Extract names) = rw (no_float_in whole (λ n. refl) (numbers_of names)) refl
step_no_float (Deliver sender k) = refl
step_no_float Request = refl
step_no_float (Answer sender k) = refl
step_no_float (Up name) = refl
step_no_float (Down name) = refl
step_no_float (Permdown name) = refl

act_no_float : (a : Action) → has_float (act_json a) ≡ false
act_no_float (Do s) = step_no_float s
act_no_float (Undo k) = refl
act_no_float (Back n) = refl

rest_no_float : (fault : Fault) → items_have_float (items_of (fault_rest fault)) ≡ false
rest_no_float (HasConsequence step held_by) = refl
rest_no_float OwnReplica = refl
rest_no_float NotKnown = refl
rest_no_float NotDown = refl
rest_no_float AlreadyTracked = refl
rest_no_float NotTracked = refl
rest_no_float NothingToSend = refl
rest_no_float EntriesFull = refl
rest_no_float ClockFull = refl
rest_no_float OwnMessage = refl
rest_no_float NoSuchMessage = refl
rest_no_float NotRequest = refl
rest_no_float IsRequest = refl
rest_no_float OutboxFull = refl
rest_no_float UnknownNode = refl
rest_no_float NoSuchStep = refl
rest_no_float AlreadyUndone = refl
rest_no_float NothingToUndo = refl
rest_no_float HistoryFull = refl
rest_no_float OutOfMemory = refl

reply_no_float : (r : Reply) → has_float (reply_json r) ≡ false
reply_no_float (Taken n) = refl
reply_no_float (Undone n) = refl
reply_no_float (Refused fault) = rest_no_float fault

pub event_no_float : (e : Event) → has_float (event_json e) ≡ false
event_no_float e = rw (act_no_float e.act, reply_no_float e.reply) refl

step_depth : (s : Operation) → items_depth (items_of (step_data s)) ≤ 1
step_depth (Join p) = omega arith
step_depth (Leave pid topic key) = omega arith
step_depth (LeaveAll pid) = omega arith
step_depth (Update p) = omega arith
step_depth Broadcast = omega arith
step_depth (Extract names) = omega (arith, depth_in whole 0 (λ n. omega arith) (numbers_of names))
step_depth (Deliver sender k) = omega arith
step_depth Request = omega arith
step_depth (Answer sender k) = omega arith
step_depth (Up name) = omega arith
step_depth (Down name) = omega arith
step_depth (Permdown name) = omega arith

act_depth : (a : Action) → depth (act_json a) ≤ 2
act_depth (Do s) = omega (arith, step_depth s)
act_depth (Undo k) = omega arith
act_depth (Back n) = omega arith

rest_depth : (fault : Fault) → items_depth (items_of (fault_rest fault)) ≤ 0
rest_depth (HasConsequence step held_by) = omega arith
rest_depth OwnReplica = omega arith
rest_depth NotKnown = omega arith
rest_depth NotDown = omega arith
rest_depth AlreadyTracked = omega arith
rest_depth NotTracked = omega arith
rest_depth NothingToSend = omega arith
rest_depth EntriesFull = omega arith
rest_depth ClockFull = omega arith
rest_depth OwnMessage = omega arith
rest_depth NoSuchMessage = omega arith
rest_depth NotRequest = omega arith
rest_depth IsRequest = omega arith
rest_depth OutboxFull = omega arith
rest_depth UnknownNode = omega arith
rest_depth NoSuchStep = omega arith
rest_depth AlreadyUndone = omega arith
rest_depth NothingToUndo = omega arith
rest_depth HistoryFull = omega arith
rest_depth OutOfMemory = omega arith

reply_depth : (r : Reply) → depth (reply_json r) ≤ 1
reply_depth (Taken n) = omega arith
reply_depth (Undone n) = omega arith
reply_depth (Refused fault) = omega (arith, rest_depth fault)

pub event_depth : (e : Event) → depth (event_json e) ≤ 3
event_depth e = omega (arith, act_depth e.act, reply_depth e.reply)
