-- The step that stands for an event: its processes and words stand for the values, its nodes for the names. A delivery and an answer name
-- the message by its number among all messages.
use Rattle.std.specs.Prelude.{◌≡◌, ℕ, Bool, true, false, List, Option, Some, None}
use Rattle.std.specs.FinSet as set
use Rattle.serde_json.specs.Data.{Items, no_items, item}
use Rattle.serde_json.specs.Find.{as_str}
use Rattle.dots_core.specs.Names.{Names}
use Rattle.payload_core.specs.Presences.{Presence}
use Rattle.node_core.specs.Operations.{Operation, Join, Leave, LeaveAll, Update, Broadcast, Extract, Deliver, Request, Answer, Up, Down, Permdown}
use Rattle.log_core.specs.Events as log
use Rattle.import_core.specs.declared.noting.Presence as code
use Rattle.import_core.specs.Tables.{AllTables, IsNumberOf, IsWordOf, IsNodeOf, IsMessageOf}

abbrev pub presence_of : {X : Type 0} → code.Presence X → Presence
presence_of p = record { pid = p.pid; topic = p.topic; key = p.key; metadata = p.metadata }

pub record IsPresenceOf (t : AllTables) (tracked : log.Tracked) (presence : Presence) : Type 0 where
  pub pid : IsNumberOf t.pids tracked.pid presence.pid
  pub topic : IsWordOf t.longs tracked.topic presence.topic
  pub key : IsWordOf t.longs tracked.key presence.key
  pub metadata : IsWordOf t.longs tracked.meta presence.metadata

-- `Rest` holds of these nodes; or, if there is a name, of these nodes with the one of this name
abbrev pub NodeIn : AllTables → Names → Option (List ℕ) → (Names → Type 0) → Type 0
NodeIn t found None Rest = Rest found
NodeIn t found (Some name) Rest = (node : ℕ) × IsNodeOf t name node × Rest (set.insert found node)

-- `names` are these nodes, and those whose names are the strings among the values
abbrev pub AreNodesOf : AllTables → Names → Items → Names → Type 0
AreNodesOf t found no_items names = names ≡ found
AreNodesOf t found (item d ds) names = NodeIn t found (as_str d) (λ more. AreNodesOf t more ds names)

abbrev pub IsStepOf : AllTables → log.Event → Operation → Type 0
IsStepOf t (log.join tracked) step = (p : Presence) × (step ≡ Join p) × IsPresenceOf t tracked p
IsStepOf t (log.update tracked) step = (p : Presence) × (step ≡ Update p) × IsPresenceOf t tracked p
IsStepOf t (log.leave pid topic key) step = (n : ℕ) × (v : List ℕ) × (w : List ℕ) × (step ≡ Leave n v w) × IsNumberOf t.pids pid n ×
    IsWordOf t.longs topic v × IsWordOf t.longs key w
IsStepOf t (log.leave_all pid) step = (n : ℕ) × (step ≡ LeaveAll n) × IsNumberOf t.pids pid n
IsStepOf t (log.broadcast message) step = step ≡ Broadcast
IsStepOf t (log.request message) step = step ≡ Request
IsStepOf t (log.extract names message) step = (nodes : Names) × (step ≡ Extract nodes) × AreNodesOf t set.empty names nodes
IsStepOf t (log.deliver from message) step = (n : ℕ) × (k : ℕ) × (step ≡ Deliver n k) × IsNodeOf t from n × IsMessageOf t n message k
IsStepOf t (log.answer from message sends) step = (n : ℕ) × (k : ℕ) × (step ≡ Answer n k) × IsNodeOf t from n × IsMessageOf t n message k
IsStepOf t (log.up name) step = (n : ℕ) × (step ≡ Up n) × IsNodeOf t name n
IsStepOf t (log.down name) step = (n : ℕ) × (step ≡ Down n) × IsNodeOf t name n
IsStepOf t (log.permdown name) step = (n : ℕ) × (step ≡ Permdown n) × IsNodeOf t name n
IsStepOf t (log.online rows) step = ⊥

-- the message that an event of a node sends, if it sends one
abbrev pub IsSentOf : AllTables → ℕ → log.Event → Option ℕ → Type 0
IsSentOf t node (log.broadcast message) sends = (k : ℕ) × (sends ≡ Some k) × IsMessageOf t node message k
IsSentOf t node (log.request message) sends = (k : ℕ) × (sends ≡ Some k) × IsMessageOf t node message k
IsSentOf t node (log.extract names message) sends = (k : ℕ) × (sends ≡ Some k) × IsMessageOf t node message k
IsSentOf t node (log.answer from message answer) sends = (k : ℕ) × (sends ≡ Some k) × IsMessageOf t node answer k
IsSentOf t node event sends = sends ≡ None

-- whether an event changes own presences
abbrev pub is_own : log.Event → Bool
is_own (log.join tracked) = true
is_own (log.update tracked) = true
is_own (log.leave pid topic key) = true
is_own (log.leave_all pid) = true
is_own _ = false

-- whether an event sends or takes a message
abbrev pub is_message : log.Event → Bool
is_message (log.broadcast message) = true
is_message (log.request message) = true
is_message (log.extract names message) = true
is_message (log.deliver from message) = true
is_message (log.answer from message sends) = true
is_message _ = false

-- whether an event sets a status
abbrev pub is_status : log.Event → Bool
is_status (log.up name) = true
is_status (log.down name) = true
is_status (log.permdown name) = true
is_status _ = false

-- whether an event lists rows, for which no step stands
abbrev pub is_online : log.Event → Bool
is_online (log.online rows) = true
is_online _ = false
