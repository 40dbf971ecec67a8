-- Laws of deliveries and of the delta.
use Rattle.std.specs.Prelude.{◌≡◌, None}
use Rattle.store_core.specs.Laws.{Agree, IsStore}
use Rattle.payload_core.specs.Messages.{Message}
use Rattle.store_core.specs.Stores.{store_of}
use Rattle.replica_core.specs.Replicas.{Replica, CanBeDelta, delta_message, without_delta, with_delta}
use Rattle.replica_core.specs.Deliveries.{merged, TakesGreaterStandings}
use Rattle.replica_core.specs.Refusals.{merge_refusal}
use Rattle.replica_core.specs.Invariant.{IsReplica}

-- a second merge of the same message changes nothing, and is accepted if the first one is
pub record AgainLaw : Type 0 where
  pub accepted : (m : Message) (r : Replica) → merge_refusal r m ≡ None → merge_refusal (merged m r) m ≡ None
  pub same : (m : Message) (r : Replica) → merged m (merged m r) ≡ merged m r

-- two messages give the same replica in either order, if the two have no different entries at one dot, and in both and in the replica
-- each entry's dot was seen
abbrev pub OrderLaw : Type 0
OrderLaw =
    (m n : Message) (r : Replica) → IsStore r.store → IsStore (store_of m) → IsStore (store_of n) → Agree m.entries n.entries →
    merged n (merged m r) ≡ merged m (merged n r)

-- if in the replica and in a message each entry's dot was seen, then after the delivery each dot of another known name has the greater
-- of its two standings, that in the replica and that in the message, and each other dot the standing that it had
abbrev pub StandingLaw : Type 0
StandingLaw = (m : Message) (r : Replica) → IsStore r.store → IsStore (store_of m) → TakesGreaterStandings m r (merged m r)

-- taking the delta out and giving it back undo each other, and the delta that was taken out can be given back
pub record DeltaLaw : Type 0 where
  pub given_back : (r : Replica) → with_delta (delta_message r) (without_delta r) ≡ r
  pub taken_again : (m : Message) (r : Replica) → CanBeDelta m r → (delta_message (with_delta m r) ≡ m) × (without_delta (with_delta m r) ≡ r)
  pub can_be_given : (r : Replica) → IsReplica r → CanBeDelta (delta_message r) (without_delta r)
