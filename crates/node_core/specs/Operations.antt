-- What a node is asked, without the memory that the words lie in; what a step reads of another node, what it sends, and
-- which nodes it names.
use Rattle.std.specs.Prelude.{◌≡◌, ◌<◌, ℕ, zero, suc, Bool, true, false, List, [], ◌∷◌, Option, None, Some, refl}
use Rattle.std.specs.Coded.{Coded, code_by, coded×, coded_ℕ}
use Rattle.std.specs.FinSet as set
use Rattle.dots_core.specs.Names.{most_names, Names}
use Rattle.payload_core.specs.Presences.{Presence, presence_code}
use Rattle.node_core.specs.declared.step.Step.{Step}
use Rattle.node_core.specs.declared.step.Step.TheVariants as steps

-- one step of a node
pub data Operation : Type 0 where
  Join : (presence : Presence) → Operation
  Leave : (pid : ℕ) (topic key : List ℕ) → Operation
  LeaveAll : (pid : ℕ) → Operation
  Update : (presence : Presence) → Operation
  Broadcast : Operation
  Extract : (names : Names) → Operation
  Deliver : (sender number : ℕ) → Operation
  Request : Operation
  Answer : (sender number : ℕ) → Operation
  Up : (name : ℕ) → Operation
  Down : (name : ℕ) → Operation
  Permdown : (name : ℕ) → Operation

abbrev pub plain : {X : Type 0} → Step X → Operation
plain (steps.Join pid topic key metadata) = Join (record { pid = pid; topic = topic; key = key; metadata = metadata })
plain (steps.Leave pid topic key) = Leave pid topic key
plain (steps.LeaveAll pid) = LeaveAll pid
plain (steps.Update pid topic key metadata) = Update (record { pid = pid; topic = topic; key = key; metadata = metadata })
plain steps.Broadcast = Broadcast
plain (steps.Extract names) = Extract names
plain (steps.Deliver sender number) = Deliver sender number
plain steps.Request = Request
plain (steps.Answer sender number) = Answer sender number
plain (steps.Up name) = Up name
plain (steps.Down name) = Down name
plain (steps.Permdown name) = Permdown name

-- the sender and the number of the message that a step delivers, if it delivers one, as an answer does too
abbrev pub delivers : Operation → Option (ℕ × ℕ)
delivers (Join presence) = None
delivers (Leave pid topic key) = None
delivers (LeaveAll pid) = None
delivers (Update presence) = None
delivers Broadcast = None
delivers (Extract names) = None
delivers (Deliver sender number) = Some (sender, number)
delivers Request = None
delivers (Answer sender number) = Some (sender, number)
delivers (Up name) = None
delivers (Down name) = None
delivers (Permdown name) = None

-- whether a step sends a message
abbrev pub sends : Operation → Bool
sends (Join presence) = false
sends (Leave pid topic key) = false
sends (LeaveAll pid) = false
sends (Update presence) = false
sends Broadcast = true
sends (Extract names) = true
sends (Deliver sender number) = false
sends Request = true
sends (Answer sender number) = true
sends (Up name) = false
sends (Down name) = false
sends (Permdown name) = false

-- the node numbers in a step
abbrev pub named_in : Operation → List ℕ
named_in (Join presence) = []
named_in (Leave pid topic key) = []
named_in (LeaveAll pid) = []
named_in (Update presence) = []
named_in Broadcast = []
named_in (Extract names) = set.items names
named_in (Deliver sender number) = sender ∷ []
named_in Request = []
named_in (Answer sender number) = sender ∷ []
named_in (Up name) = name ∷ []
named_in (Down name) = name ∷ []
named_in (Permdown name) = name ∷ []

-- each node number in a step is below `most_names`; the set of names of an extract isn't looked at
abbrev pub AreNames : Operation → Type 0
AreNames (Join presence) = Unit {0}
AreNames (Leave pid topic key) = Unit {0}
AreNames (LeaveAll pid) = Unit {0}
AreNames (Update presence) = Unit {0}
AreNames Broadcast = Unit {0}
AreNames (Extract names) = Unit {0}
AreNames (Deliver sender number) = sender < most_names
AreNames Request = Unit {0}
AreNames (Answer sender number) = sender < most_names
AreNames (Up name) = name < most_names
AreNames (Down name) = name < most_names
AreNames (Permdown name) = name < most_names

-- an operation is stored as the number of its kind, with a presence, names and two numbers, as far as the kind uses them
abbrev Stored : Type 0
Stored = ℕ × (Presence × (Names × (ℕ × ℕ)))

abbrev no_presence : Presence
no_presence = record { pid = 0; topic = []; key = []; metadata = [] }

-- a presence without metadata
abbrev bare : ℕ → List ℕ → List ℕ → Presence
bare pid topic key = record { pid = pid; topic = topic; key = key; metadata = [] }

abbrev stored : Operation → Stored
stored (Join presence) = (0, (presence, (set.empty, (0, 0))))
stored (Leave pid topic key) = (1, (bare pid topic key, (set.empty, (0, 0))))
stored (LeaveAll pid) = (2, (no_presence, (set.empty, (pid, 0))))
stored (Update presence) = (3, (presence, (set.empty, (0, 0))))
stored Broadcast = (4, (no_presence, (set.empty, (0, 0))))
stored (Extract names) = (5, (no_presence, (names, (0, 0))))
stored (Deliver sender number) = (6, (no_presence, (set.empty, (sender, number))))
stored (Up name) = (7, (no_presence, (set.empty, (name, 0))))
stored (Down name) = (8, (no_presence, (set.empty, (name, 0))))
stored (Permdown name) = (9, (no_presence, (set.empty, (name, 0))))
stored Request = (10, (no_presence, (set.empty, (0, 0))))
stored (Answer sender number) = (11, (no_presence, (set.empty, (sender, number))))

abbrev of_request_kind : ℕ → ℕ → ℕ → Operation
of_request_kind zero one other = Request
of_request_kind (suc kind) one other = Answer one other

abbrev of_status_kind : ℕ → ℕ → ℕ → Operation
of_status_kind zero one other = Up one
of_status_kind (suc zero) one other = Down one
of_status_kind (suc (suc zero)) one other = Permdown one
of_status_kind (suc (suc (suc kind))) one other = of_request_kind kind one other

abbrev of_message_kind : ℕ → Names → ℕ → ℕ → Operation
of_message_kind zero names one other = Broadcast
of_message_kind (suc zero) names one other = Extract names
of_message_kind (suc (suc zero)) names one other = Deliver one other
of_message_kind (suc (suc (suc kind))) names one other = of_status_kind kind one other

abbrev of_kind : ℕ → Presence → Names → ℕ → ℕ → Operation
of_kind zero presence names one other = Join presence
of_kind (suc zero) presence names one other = Leave presence.pid presence.topic presence.key
of_kind (suc (suc zero)) presence names one other = LeaveAll one
of_kind (suc (suc (suc zero))) presence names one other = Update presence
of_kind (suc (suc (suc (suc kind)))) presence names one other = of_message_kind kind names one other

abbrev from_stored : Stored → Operation
from_stored t = of_kind t.0 t.1.0 t.1.1.0 t.1.1.1.0 t.1.1.1.1

abbrev from_stored-stored : (o : Operation) → from_stored (stored o) ≡ o
from_stored-stored (Join presence) = refl
from_stored-stored (Leave pid topic key) = refl
from_stored-stored (LeaveAll pid) = refl
from_stored-stored (Update presence) = refl
from_stored-stored Broadcast = refl
from_stored-stored (Extract names) = refl
from_stored-stored (Deliver sender number) = refl
from_stored-stored (Up name) = refl
from_stored-stored (Down name) = refl
from_stored-stored (Permdown name) = refl
from_stored-stored Request = refl
from_stored-stored (Answer sender number) = refl

abbrev pub operation_code : Coded Operation
operation_code =
    code_by Stored (coded× coded_ℕ (coded× presence_code (coded× (set.code coded_ℕ) (coded× coded_ℕ coded_ℕ)))) stored from_stored
    from_stored-stored
