-- Room for steps to come, which stays whatever is lent, put back and taken out.
use Rattle.std.specs.Prelude.{ℕ, ◌<◌, ◌≤◌, List, length, Option, Some, None}
use Rattle.std.specs.List.{AllByRecursion}
use Rattle.smallvec.specs.SmallVec.{HasRoomFor}
use Rattle.journal_core.specs.Holdings.{Room}
use Rattle.journal_core.specs.Causes.{Causes, causes_at, deliveries_at, HasDeliveryRoom}

-- no node has less room for its steps than before, nor more messages; and each message that is still there has room for one more delivery
-- if it had that before
pub record KeepsRoom (cs ds : List Causes) : Type 0 where
  pub nodes : (n : ℕ) → (causes_at cs n).room ≤ (causes_at ds n).room
  pub shorter : (n : ℕ) → length (causes_at ds n).deliveries ≤ length (causes_at cs n).deliveries
  pub messages : (n p : ℕ) → p < length (causes_at ds n).deliveries → HasRoomFor (deliveries_at (causes_at cs n).deliveries p) 1 →
      HasRoomFor (deliveries_at (causes_at ds n).deliveries p) 1

-- there is room for a delivery of this message, if one is named and is still there
abbrev pub HasDeliveryRoomIfThere : Option (ℕ × ℕ) → List Causes → Type 0
HasDeliveryRoomIfThere None cs = Unit {0}
HasDeliveryRoomIfThere (Some m) cs = 0 < m.1 → m.1 ≤ length (causes_at cs m.0).deliveries → HasDeliveryRoom (Some m) cs

-- this room is still there: a slot, a place in the node's index, and a place for the delivery, if one is named and its message is still
-- there
pub record IsPromised (cs : List Causes) (slots : ℕ) (r : Room) : Type 0 where
  pub slot : 0 < slots
  pub own : 0 < (causes_at cs r.node).room
  pub delivery : HasDeliveryRoomIfThere r.delivers cs

abbrev pub ArePromised : List Causes → ℕ → List Room → Type 0
ArePromised cs slots rs = AllByRecursion (λ (r : Room). IsPromised cs slots r) rs
