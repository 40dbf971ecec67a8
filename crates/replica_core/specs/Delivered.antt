-- A delivery that was accepted, and the delivery taken back.
use Rattle.std.specs.Prelude.{◌≡◌, ℕ, None}
use Rattle.std.specs.FinSet as set
use Rattle.dots_core.specs.Names.{Names}
use Rattle.payload_core.specs.Messages.{Message}
use Rattle.store_core.specs.Delivered.{Delivered, Destroys, undelivered}
use Rattle.store_core.specs.Stores.{store_of}
use Rattle.replica_core.specs.Replicas.{Replica}
use Rattle.replica_core.specs.Deliveries.{is_other_known, merged}
use Rattle.replica_core.specs.Refusals.{merge_refusal}

-- these are the other names that the replica knows
abbrev pub AreOtherKnown : Names → Replica → Type 0
AreOtherKnown names r = (n : ℕ) → set.contains names n ≡ is_other_known r n

-- the replica with the delivery taken back: without the entries that joined, with those that left, and with the old parts of the names
-- whose dots changed
abbrev pub with_undelivered : Delivered → Replica → Replica
with_undelivered d r = record r { store = undelivered d r.store }

-- one accepted delivery takes replica a to replica b, and the record names what it destroyed of a
pub record IsDelivery (d : Delivered) (a b : Replica) : Type 0 where
  pub message : Message
  -- the message is no request
  pub no_request : message.asked ≡ None
  pub accepted : merge_refusal a message ≡ None
  pub destroyed : Destroys (is_other_known a) (store_of message) a.store d
  pub gives : b ≡ merged message a
