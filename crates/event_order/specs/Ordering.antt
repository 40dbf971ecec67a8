-- In which order logged events of several nodes can have come. An event is named by its place in the input, counted from 0.
use Rattle.std.specs.Prelude.{◌≡◌, ℕ, ◌<◌, List, length, take, slice_index, slice_index_or, Option, Some, None}
use Rattle.std.specs.List.{Contains}
use Rattle.event_order.specs.declared.logged.Logged.{Logged}
use Rattle.event_order.specs.declared.order_fault.OrderFault.{OrderFault}
use Rattle.event_order.specs.declared.order_fault.OrderFault.TheVariants.{Twice, NeverSent, Circle, OutOfMemory}

-- an event that waits for nothing and sends nothing, which stands for one that isn't there
abbrev pub no_event : Logged
no_event = record { node = 0; waits = None; sends = None }

abbrev pub event_at : List Logged → ℕ → Logged
event_at events place = slice_index_or events place no_event

-- the node that logged the event, the message that it takes, and the one that it sends
abbrev pub node_at : List Logged → ℕ → ℕ
node_at events place = (event_at events place).node

abbrev pub waits_at : List Logged → ℕ → Option ℕ
waits_at events place = (event_at events place).waits

abbrev pub sends_at : List Logged → ℕ → Option ℕ
sends_at events place = (event_at events place).sends

-- one of the events that came sent the message
abbrev pub WasSent : List Logged → List ℕ → ℕ → Type 0
WasSent events came message = (place : ℕ) × Contains came place × (sends_at events place ≡ Some message)

-- after the events that came, this one can come: it hasn't come yet, the earlier events of its node have, and the message that it
-- waits for was sent
pub record CanCome (events : List Logged) (came : List ℕ) (place : ℕ) : Type 0 where
  pub there : place < length events
  pub new : Contains came place → ⊥
  pub turn : (earlier : ℕ) → earlier < place → node_at events earlier ≡ node_at events place → Contains came earlier
  pub sent : (message : ℕ) → waits_at events place ≡ Some message → WasSent events came message

-- the events of the list can come in its order: each of them after those before it in the list
pub record IsBegun (events : List Logged) (order : List ℕ) : Type 0 where
  pub each : (k : ℕ) → k < length order → CanCome events (take k order) (slice_index order k)

-- the events of the list can come in its order, and they are all events
pub record IsOrder (events : List Logged) (order : List ℕ) : Type 0 where
  pub begun : IsBegun events order
  pub all : (place : ℕ) → place < length events → Contains order place

-- the nearest to the input: at each point comes the first event of the input that can come
pub record IsNearest (events : List Logged) (order : List ℕ) : Type 0 where
  pub first : (k place : ℕ) → k < length order → place < slice_index order k → CanCome events (take k order) place → ⊥

-- the event sends a message that an earlier one sends
abbrev pub SendsAgain : List Logged → ℕ → Type 0
SendsAgain events place =
    (earlier : ℕ) × (message : ℕ) × (earlier < place) × (sends_at events earlier ≡ Some message) × (sends_at events place ≡ Some message)

-- the event is the first that sends a message which an earlier one sends
pub record IsTwiceAt (events : List Logged) (place : ℕ) : Type 0 where
  pub there : place < length events
  pub again : SendsAgain events place
  pub first : (earlier : ℕ) → earlier < place → SendsAgain events earlier → ⊥

-- no message is sent twice
abbrev pub NoTwice : List Logged → Type 0
NoTwice events = (place : ℕ) → place < length events → SendsAgain events place → ⊥

-- some event sends the message
abbrev pub IsSent : List Logged → ℕ → Type 0
IsSent events message = (place : ℕ) × (sends_at events place ≡ Some message)

-- the first event that waits for a message that no event sends
pub record IsNeverSentAt (events : List Logged) (place : ℕ) : Type 0 where
  pub there : place < length events
  pub waits : (message : ℕ) × (waits_at events place ≡ Some message) × (IsSent events message → ⊥)
  pub first : (earlier message : ℕ) → earlier < place → waits_at events earlier ≡ Some message → IsSent events message

-- each message that an event waits for is sent
abbrev pub AllSent : List Logged → Type 0
AllSent events = (place message : ℕ) → place < length events → waits_at events place ≡ Some message → IsSent events message

-- the first event that waits forever: it never comes, however the events begin, and each event before it can be made to come
pub record IsStuckAt (events : List Logged) (place : ℕ) : Type 0 where
  pub there : place < length events
  pub never : (order : List ℕ) → IsBegun events order → Contains order place → ⊥
  pub first : (earlier : ℕ) → earlier < place → (order : List ℕ) × IsBegun events order × Contains order earlier

-- why no order is given: the first event that sends a message again; if there is none, the first that waits for a message which is never
-- sent; if there is neither, the first that waits forever; or memory was refused, which says nothing of the events
abbrev pub IsFaultOf : List Logged → OrderFault → Type 0
IsFaultOf events (Twice at) = IsTwiceAt events at
IsFaultOf events (NeverSent at) = NoTwice events × IsNeverSentAt events at
IsFaultOf events (Circle at) = NoTwice events × AllSent events × IsStuckAt events at
IsFaultOf events OutOfMemory = Unit {0}

-- what `ordered` gives: the nearest order of the events, none of whose messages is sent twice
pub record IsOrdered (events : List Logged) (order : List ℕ) : Type 0 where
  pub is : IsOrder events order
  pub nearest : IsNearest events order
  pub once : NoTwice events

-- each event is of one of `nodes` nodes, counted from 0
abbrev pub HasNodes : ℕ → List Logged → Type 0
HasNodes nodes events = (place : ℕ) → place < length events → node_at events place < nodes

-- each message that is sent or waited for is one of `messages` messages, counted from 0
pub record HasMessages (messages : ℕ) (events : List Logged) : Type 0 where
  pub waits : (place message : ℕ) → waits_at events place ≡ Some message → message < messages
  pub sends : (place message : ℕ) → sends_at events place ≡ Some message → message < messages
