-- What leads back from a step (Danos and Krivine: causal undo, by inverse records).
use Rattle.std.specs.Prelude.{◌≡◌, ◌≢◌, Bool, true, false, Option, None, Some, Result, Ok, Err, refl}
use Rattle.std.specs.Coded.{Coded, code_by, coded×, coded_option, coded_bool}
use Rattle.payload_core.specs.Messages.{Message}
use Rattle.replica_core.specs.Replicas.{delta_message, without_delta}
use Rattle.replica_core.specs.Changes as changes
use Rattle.replica_core.specs.ChangeCodes.{change_code}
use Rattle.node_core.specs.declared.inverse.Inverse as declared
use Rattle.node_core.specs.declared.inverse.Inverse.TheVariants as variants
use Rattle.node_core.specs.declared.step_fault.StepFault.{StepFault}
use Rattle.node_core.specs.declared.step_fault.StepFault.TheVariants.{OutOfMemory}
use Rattle.node_core.specs.Operations.{Operation}
use Rattle.node_core.specs.Nodes.{Node, take, with_sent}
use Rattle.node_core.specs.Invariant.{IsNode}

-- the inverse of a step that sends nothing, with the change of the replica; of a broadcast; or of another send: an extract, a request or
-- an answer
pub data Inverse : Type 0 where
  OfChange : (change : changes.Change) → Inverse
  OfBroadcast : Inverse
  OfSent : Inverse

abbrev pub plain_inverse : {X : Type 0} → declared.Inverse X → Inverse
plain_inverse (variants.Change change) = OfChange (changes.plain_change change)
plain_inverse variants.Broadcast = OfBroadcast
plain_inverse variants.Sent = OfSent

-- whether a step with this inverse is taken back without memory: it sent a message, or its change needs none
abbrev pub needs_no_memory : Inverse → Bool
needs_no_memory (OfChange change) = changes.needs_no_memory change
needs_no_memory OfBroadcast = true
needs_no_memory OfSent = true

-- the change that the inverse has, if it has one
abbrev pub change_of : Inverse → Option changes.Change
change_of (OfChange change) = Some change
change_of OfBroadcast = None
change_of OfSent = None

-- an inverse is stored as its change, if it has one, and whether it is of a broadcast
abbrev stored : Inverse → Option changes.Change × Bool
stored (OfChange change) = (Some change, false)
stored OfBroadcast = (None, true)
stored OfSent = (None, false)

abbrev of_send : Bool → Inverse
of_send true = OfBroadcast
of_send false = OfSent

abbrev from_stored : Option changes.Change → Bool → Inverse
from_stored None broadcast = of_send broadcast
from_stored (Some change) broadcast = OfChange change

abbrev from_stored-stored : (i : Inverse) → from_stored (stored i).0 (stored i).1 ≡ i
from_stored-stored (OfChange change) = refl
from_stored-stored OfBroadcast = refl
from_stored-stored OfSent = refl

abbrev pub inverse_code : Coded Inverse
inverse_code =
    code_by (Option changes.Change × Bool) (coded× (coded_option change_code) coded_bool) stored (λ t. from_stored t.0 t.1)
    from_stored-stored

-- the inverse names what a step that took node a to node b destroyed
abbrev pub Names : Inverse → Node → Node → Type 0
Names (OfChange change) b a = changes.ChangeLeadsBack change b.replica a.replica × (b.outbox ≡ a.outbox)
Names OfBroadcast b a = b ≡ with_sent a (delta_message a.replica) (without_delta a.replica)
Names OfSent b a = (m : Message) × (b ≡ with_sent a m a.replica)

-- the inverse leads from node b back to node a, which keeps what each node keeps: one accepted step takes a to b, and the inverse names
-- what that step destroyed
pub record LeadsBack (inverse : Inverse) (b a : Node) : Type 0 where
  pub operation : Operation
  pub message : Option Message
  pub taken : take a operation message ≡ Ok b
  pub names : Names inverse b a
  pub earlier : IsNode a

-- the inverse leads from node b back to some node
abbrev pub LeadsSomewhere : Inverse → Node → Type 0
LeadsSomewhere inverse b = (a : Node) × LeadsBack inverse b a

-- if the inverse leads from node b back to a node, that is the new node
abbrev pub GivesBack : Inverse → Node → Node → Type 0
GivesBack inverse b new = (a : Node) → LeadsBack inverse b a → new ≡ a

-- the node became what `take` says, and the inverse leads back; or it is unchanged, and the fault is the one that `take` says, or want of
-- memory
abbrev pub Takes : {X : Type 0} → Node → Operation → Option Message → Result (declared.Inverse X) StepFault → Node → Type 0
Takes old s m (Ok inverse) new = (take old s m ≡ Ok new) × LeadsBack (plain_inverse inverse) new old
Takes old s m (Err fault) new = (new ≡ old) × (fault ≢ OutOfMemory → take old s m ≡ Err fault)
