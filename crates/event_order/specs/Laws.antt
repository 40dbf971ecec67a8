-- What orders of events are, besides their definition.
use Rattle.std.specs.Prelude.{◌≡◌, ℕ, ◌<◌, ◌≤◌, List, length, take, slice_index, Some}
use Rattle.std.specs.List.{Contains}
use Rattle.event_order.specs.declared.logged.Logged.{Logged}
use Rattle.event_order.specs.declared.order_fault.OrderFault.TheVariants.{NeverSent, Circle}
use Rattle.event_order.specs.Ordering.{node_at, waits_at, sends_at, IsOrder, IsNearest, IsFaultOf}

-- Each event stands once in the list, the events of a node stand in the order of the input, and an event that waits for a message
-- stands after one that sends it.
pub record IsInterleaving (events : List Logged) (order : List ℕ) : Type 0 where
  pub all : (place : ℕ) → place < length events → Contains order place
  pub within : (k : ℕ) → k < length order → slice_index order k < length events
  pub once : (j k : ℕ) → j < k → k < length order → slice_index order j ≡ slice_index order k → ⊥
  pub turns : (j k : ℕ) → j < k → k < length order → node_at events (slice_index order j) ≡ node_at events (slice_index order k) →
      slice_index order j < slice_index order k
  pub behind : (k message : ℕ) → k < length order → waits_at events (slice_index order k) ≡ Some message →
      (j : ℕ) × (j < k) × (sends_at events (slice_index order j) ≡ Some message)

-- an order is an interleaving, and each interleaving is an order
pub record InterleavingLaw : Type 0 where
  pub is : (events : List Logged) (order : List ℕ) → IsOrder events order → IsInterleaving events order
  pub only : (events : List Logged) (order : List ℕ) → IsInterleaving events order → IsOrder events order

-- if the nearest order and another are the same up to a point, the nearest has an earlier event of the input there, or the same
abbrev pub NearestLaw : Type 0
NearestLaw = (events : List Logged) (nearest other : List ℕ) → IsOrder events nearest → IsNearest events nearest → IsOrder events other →
    (k : ℕ) → k < length nearest → take k nearest ≡ take k other → slice_index nearest k ≤ slice_index other k

abbrev pub OneNearestLaw : Type 0
OneNearestLaw = (events : List Logged) (one other : List ℕ) → IsOrder events one → IsNearest events one → IsOrder events other →
    IsNearest events other → one ≡ other

pub record NoOrderLaw : Type 0 where
  pub never_sent : (events : List Logged) (at : ℕ) → IsFaultOf events (NeverSent at) → (order : List ℕ) → IsOrder events order → ⊥
  pub circle : (events : List Logged) (at : ℕ) → IsFaultOf events (Circle at) → (order : List ℕ) → IsOrder events order → ⊥
