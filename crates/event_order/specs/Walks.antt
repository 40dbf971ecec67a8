-- What is kept of an order under way: the next event of each node, and which messages were sent.
use Rattle.std.specs.Prelude.{◌≡◌, ℕ, ◌-◌, ◌<◌, ◌≤◌, Bool, true, false, List, length, slice_index, slice_index_or, Option, Some, None}
use Rattle.std.specs.List.{Contains, sum_by}
use Rattle.event_order.specs.declared.logged.Logged.{Logged}
use Rattle.event_order.specs.declared.order_fault.OrderFault.{OrderFault}
use Rattle.event_order.specs.declared.order_fault.OrderFault.TheVariants.{Twice, NeverSent, Circle, OutOfMemory}
use Rattle.event_order.specs.Ordering.{node_at, waits_at, sends_at, WasSent, SendsAgain, IsBegun, IsNearest, CanCome, IsTwiceAt, IsNeverSentAt, NoTwice, IsStuckAt}

-- the first event of the node from a place on, or the number of all events if there is none
pub record IsFirstOf (events : List Logged) (node : ℕ) (from place : ℕ) : Type 0 where
  pub low : from ≤ place
  pub within : place ≤ length events
  pub before : (q : ℕ) → from ≤ q → q < place → node_at events q ≡ node → ⊥
  pub here : place < length events → node_at events place ≡ node

-- the first event of the node that hasn't come, or the number of all events if each has; no event of the node from `head` on came
pub record IsHead (events : List Logged) (came : List ℕ) (node head : ℕ) : Type 0 where
  pub within : head ≤ length events
  pub low : (q : ℕ) → q < head → node_at events q ≡ node → Contains came q
  pub here : head < length events → node_at events head ≡ node
  pub high : (q : ℕ) → head ≤ q → q < length events → node_at events q ≡ node → Contains came q → ⊥

-- each of these is the head of the node whose number is its place in the list
abbrev pub AreHeads : List Logged → List ℕ → List ℕ → Type 0
AreHeads events came heads = (node : ℕ) → node < length heads → IsHead events came node (slice_index heads node)

-- whether there is no message, or the message was sent
abbrev pub is_sent : Option ℕ → List Bool → Bool
is_sent None sent = true
is_sent (Some message) sent = slice_index_or sent message false

-- `sent` has true for the messages that were sent by the events that came, and for no others
pub record AreSent (events : List Logged) (came : List ℕ) (sent : List Bool) : Type 0 where
  pub sound : (message : ℕ) → slice_index_or sent message false ≡ true → WasSent events came message
  pub all : (message : ℕ) → WasSent events came message → slice_index_or sent message false ≡ true

pub record IsWalk (events : List Logged) (came heads : List ℕ) (sent : List Bool) : Type 0 where
  pub next : AreHeads events came heads
  pub messages : AreSent events came sent

-- the first event among the heads that waits for nothing or for a message that was sent; or the number of all events, if there is none
pub record IsLeastReady (events : List Logged) (heads : List ℕ) (sent : List Bool) (place : ℕ) : Type 0 where
  pub within : place ≤ length events
  pub among : place < length events → (j : ℕ) × (j < length heads) × (slice_index heads j ≡ place)
  pub ready : place < length events → is_sent (waits_at events place) sent ≡ true
  pub first : (j : ℕ) → j < length heads → slice_index heads j < place → is_sent (waits_at events (slice_index heads j)) sent ≡ true → ⊥

-- how many places there are from each head to the end, added up
abbrev pub left_of : List Logged → List ℕ → ℕ
left_of events heads = sum_by (λ head. length events - head) heads

-- the least number of the list below the limit, or the limit
pub record IsLeast (limit : ℕ) (numbers : List ℕ) (least : ℕ) : Type 0 where
  pub within : least ≤ limit
  pub among : least < limit → (j : ℕ) × (j < length numbers) × (slice_index numbers j ≡ least)
  pub first : (j : ℕ) → j < length numbers → slice_index numbers j < limit → least ≤ slice_index numbers j

-- `sent` has true for the messages that the events below a place send, and for no others
pub record IsSentUpTo (events : List Logged) (end : ℕ) (sent : List Bool) : Type 0 where
  pub sound : (message : ℕ) → slice_index_or sent message false ≡ true → (place : ℕ) × (place < end) × (sends_at events place ≡ Some message)
  pub all : (place message : ℕ) → place < end → sends_at events place ≡ Some message → slice_index_or sent message false ≡ true

-- no message is sent twice by the events below a place
abbrev pub NoTwiceUpTo : List Logged → ℕ → Type 0
NoTwiceUpTo events end = (place : ℕ) → place < end → SendsAgain events place → ⊥

-- the events that came were at each point the first that could, and no event can come after them; the heads are those after them
pub record IsStopped (events : List Logged) (came heads : List ℕ) : Type 0 where
  pub begun : IsBegun events came
  pub nearest : IsNearest events came
  pub next : AreHeads events came heads
  pub none : (place : ℕ) → CanCome events came place → ⊥

-- of the reasons why no order is given, the two about messages; or memory was refused
abbrev pub IsMessageFault : List Logged → OrderFault → Type 0
IsMessageFault events (Twice at) = IsTwiceAt events at
IsMessageFault events (NeverSent at) = NoTwice events × IsNeverSentAt events at
IsMessageFault events (Circle at) = ⊥
IsMessageFault events OutOfMemory = Unit {0}

-- of the reasons why no order is given, the one about an event that waits forever; or memory was refused
abbrev pub IsWaitFault : List Logged → OrderFault → Type 0
IsWaitFault events (Twice at) = ⊥
IsWaitFault events (NeverSent at) = ⊥
IsWaitFault events (Circle at) = IsStuckAt events at
IsWaitFault events OutOfMemory = Unit {0}
