-- A recorded call read from left to right: what it asks and what was answered.
use Rattle.std.specs.Prelude.{ℕ, suc, ◌+◌, ◌==◌, ◌&&◌, if◌then◌else◌, nat_lt, nat_le, List, [], ◌∷◌, codes, Bool}
use Rattle.std.specs.Prelude.{Option, Some, None, option_and_then, option_map}
use Rattle.std.specs.Str.{bytes_eq}
use Rattle.std.specs.FinSet as set
use Rattle.serde_json.specs.Data.{Data, Items, no_items, item}
use Rattle.serde_json.specs.Find.{at, as_array, as_number, as_u64}
use Rattle.dots_core.specs.Names.{most_names, Names}
use Rattle.payload_core.specs.Presences.{Presence}
use Rattle.payload_core.specs.Words.{is_word}
use Rattle.node_core.specs.Operations.{Operation, Join, Leave, LeaveAll, Update, Broadcast, Extract, Deliver, Request, Answer, Up, Down, Permdown}
use Rattle.bench_core.specs.declared.reply.Reply.{Reply}
use Rattle.bench_core.specs.declared.reply.Reply.TheVariants.{Taken, Undone, Refused}
use Rattle.bench_core.specs.declared.fault.Fault.{Fault}
use Rattle.bench_core.specs.declared.fault.Fault.TheVariants as faults
use Rattle.bench_core.specs.Acts.{Action, Do, Undo, Back}
use Rattle.bench_core.specs.Machine.{Event}
use Rattle.json_core.specs.InLists.{number_in, text_in, ends_at}

-- the next step of a reading in `do`, if the step before gave a value
infixl 10 ◌>>=◌
abbrev pub ◌>>=◌ : {A B : Type 0} → Option A → (A → Option B) → Option B
(Some x) >>= f = f x
None >>= f = None

abbrev pub kept_if : {A : Type 0} → Bool → A → Option A
kept_if b x = if b then Some x else None

-- the number of a node or an actor at place i of a list, if it is below 65,536
abbrev pub node_in : ℕ → Data → Option ℕ
node_in i d = option_and_then (λ n. kept_if (nat_lt n 65536) n) (number_in i d)

abbrev pub word_in : ℕ → Data → Option (List ℕ)
word_in i d = option_and_then (λ s. kept_if (is_word s) s) (text_in i d)

-- steps

unfoldable pub presence_at : Data → Option Presence
presence_at d = do
  pid ← number_in 2 d
  topic ← word_in 3 d
  key ← word_in 4 d
  metadata ← word_in 5 d
  kept_if (ends_at 6 d) (record { pid = pid; topic = topic; key = key; metadata = metadata })

unfoldable pub leave_at : Data → Option Operation
leave_at d = do
  pid ← number_in 2 d
  topic ← word_in 3 d
  key ← word_in 4 d
  kept_if (ends_at 5 d) (Leave pid topic key)

unfoldable pub leave_all_at : Data → Option Operation
leave_all_at d = do
  pid ← number_in 2 d
  kept_if (ends_at 3 d) (LeaveAll pid)

abbrev pub number_of : Data → Option ℕ
number_of d = option_and_then as_u64 (as_number d)

-- the set `names` with the numbers that the values are, if each value is one, at least `least`, below `most_names`, and above those
-- before it
abbrev pub names_from : ℕ → Names → Items → Option Names
names_from least names no_items = Some names
names_from least names (item d ds) = do
  n ← number_of d
  if nat_le least n && nat_lt n most_names then names_from (n + 1) (set.insert names n) ds else None

unfoldable pub extract_at : Data → Option Operation
extract_at d = do
  values ← option_and_then as_array (at 2 d)
  names ← names_from 0 set.empty values
  kept_if (ends_at 3 d) (Extract names)

-- the sender and the number of the message of a delivery or an answer
unfoldable pub sent_at : Data → Option (ℕ × ℕ)
sent_at d = do
  sender ← node_in 2 d
  k ← number_in 3 d
  kept_if (ends_at 4 d) (sender, k)

abbrev pub deliver_at : Data → Option Operation
deliver_at d = option_map (λ message. Deliver message.0 message.1) (sent_at d)

abbrev pub answer_at : Data → Option Operation
answer_at d = option_map (λ message. Answer message.0 message.1) (sent_at d)

-- the one name of an up, a down or a permanently down
unfoldable pub name_at : Data → Option ℕ
name_at d = do
  name ← node_in 2 d
  kept_if (ends_at 3 d) name

-- a step that sets the status of another name
unfoldable pub status_at : List ℕ → Data → Option Operation
status_at verb d =
    if bytes_eq verb (codes "up") then option_map Up (name_at d)
    else (if bytes_eq verb (codes "down") then option_map Down (name_at d)
    else (if bytes_eq verb (codes "permdown") then option_map Permdown (name_at d) else None))

-- a step that sends or delivers a message, or else sets a status
unfoldable pub message_at : List ℕ → Data → Option Operation
message_at verb d =
    if bytes_eq verb (codes "broadcast") then kept_if (ends_at 2 d) Broadcast
    else (if bytes_eq verb (codes "extract") then extract_at d
    else (if bytes_eq verb (codes "deliver") then deliver_at d
    else (if bytes_eq verb (codes "request") then kept_if (ends_at 2 d) Request
    else (if bytes_eq verb (codes "answer") then answer_at d else status_at verb d))))

-- a step that changes the own entries, or else one of the others
unfoldable pub tracking_at : List ℕ → Data → Option Operation
tracking_at verb d =
    if bytes_eq verb (codes "join") then option_map Join (presence_at d)
    else (if bytes_eq verb (codes "leave") then leave_at d
    else (if bytes_eq verb (codes "leaveall") then leave_all_at d
    else (if bytes_eq verb (codes "update") then option_map Update (presence_at d) else message_at verb d)))

unfoldable pub step_at : Data → Option Operation
step_at d = do
  verb ← text_in 1 d
  tracking_at verb d

-- acts

unfoldable pub undo_at : Data → Option Action
undo_at d = do
  k ← number_in 1 d
  kept_if (ends_at 2 d) (Undo k)

unfoldable pub back_at : Data → Option Action
back_at d = do
  n ← node_in 1 d
  kept_if (ends_at 2 d) (Back n)

unfoldable pub act_at : Data → Option Action
act_at d = do
  verb ← text_in 0 d
  if bytes_eq verb (codes "do") then option_map Do (step_at d)
      else (if bytes_eq verb (codes "undo") then undo_at d
      else (if bytes_eq verb (codes "back") then back_at d else None))

-- replies

-- the fault of this number among these, which are numbered from i on; else `other`
abbrev pub numbered_from : ℕ → List Fault → Option Fault → ℕ → Option Fault
numbered_from i [] other n = other
numbered_from i (fault ∷ rest) other n = if n == i then Some fault else numbered_from (suc i) rest other n

-- the recorded faults without fields, which are numbered from 1 on
abbrev pub plain_faults : List Fault
plain_faults =
    faults.OwnReplica ∷ faults.NotKnown ∷ faults.NotDown ∷ faults.AlreadyTracked ∷ faults.NotTracked ∷ faults.NothingToSend ∷ faults.EntriesFull
    ∷ faults.ClockFull ∷ faults.OwnMessage ∷ faults.NoSuchMessage ∷ faults.OutboxFull ∷ faults.UnknownNode ∷ faults.NoSuchStep
    ∷ faults.AlreadyUndone ∷ faults.NothingToUndo ∷ []

-- the recorded faults without fields that are numbered from 18 on
abbrev pub request_faults : List Fault
request_faults = faults.NotRequest ∷ faults.IsRequest ∷ []

abbrev pub fault_of : ℕ → Option Fault
fault_of n = numbered_from 1 plain_faults (numbered_from 18 request_faults None n) n

unfoldable pub consequence_at : Data → Option Fault
consequence_at d = do
  step ← number_in 2 d
  held_by ← number_in 3 d
  kept_if (ends_at 4 d) (faults.HasConsequence step held_by)

unfoldable pub fault_at : Data → Option Fault
fault_at d = do
  code ← number_in 1 d
  if code == 16 then consequence_at d else (do
    fault ← fault_of code
    kept_if (ends_at 2 d) fault)

-- the one number of a list of a word and a number
unfoldable pub counted_at : Data → Option ℕ
counted_at d = do
  n ← number_in 1 d
  kept_if (ends_at 2 d) n

unfoldable pub reply_at : Data → Option Reply
reply_at d = do
  verb ← text_in 0 d
  if bytes_eq verb (codes "ok") then option_map Taken (counted_at d)
      else (if bytes_eq verb (codes "undone") then option_map Undone (counted_at d)
      else (if bytes_eq verb (codes "no") then option_map Refused (fault_at d) else None))

-- events

unfoldable pub event_at : Data → Option Event
event_at d = do
  actor ← node_in 0 d
  act ← option_and_then act_at (at 1 d)
  reply ← option_and_then reply_at (at 2 d)
  kept_if (ends_at 3 d) (record { actor = actor; act = act; reply = reply })
