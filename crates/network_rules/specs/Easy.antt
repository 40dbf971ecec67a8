-- Steps that a walk can take at once without missing an outcome, by the cluster at which the walk stands.
use Rattle.std.specs.Prelude.{◌≡◌, ◌==◌, ◌<◌, ℕ, true, false, List, slice_get, Some}
use Rattle.std.specs.FinSet as set
use Rattle.dots_core.specs.declared.dot.Dot.{Dot}
use Rattle.dots_core.specs.Names.{Names}
use Rattle.payload_core.specs.Messages.{Message}
use Rattle.replica_core.specs.Replicas.{is_known}
use Rattle.node_core.specs.Operations.{Operation, Up}
use Rattle.node_core.specs.Nodes.{Node}
use Rattle.bench_core.specs.Clusters.{Cluster, message_at}
use Rattle.network_core.specs.EasySteps.{is_always_easy}
use Rattle.network_rules.specs.declared.turn.Turn.{Turn}
use Rattle.network_rules.specs.Tables.{is_wanted, matter, Tables}
use Rattle.network_rules.specs.Turns.{count_at}

-- the step is easy at this cluster: it is of a kind that always is, or an up of a name that its node knows
pub data IsEasyAt (c : Cluster) (node : ℕ) (s : Operation) : Type 0 where
  IsAlwaysEasy : is_always_easy s ≡ true → IsEasyAt c node s
  IsKnownUp : (name : ℕ) → s ≡ Up name → ((x : Node) → slice_get c node ≡ Some x → is_known x.replica name ≡ true) → IsEasyAt c node s

-- the message has none of the dots that are asked for and have one of these names, unless the dot is the node's own
abbrev pub BringsNone : List Dot → Names → ℕ → Message → Type 0
BringsNone dots names own m =
    (d : Dot) → is_wanted dots d ≡ true → (d.name == own) ≡ false → set.contains names d.name ≡ true → set.contains m.seen d ≡ false

-- fewer steps of the turn at this place came than were recorded; and the sender's message of this number was sent, and
-- brings nothing that matters to the node
pub record IsIdleAt (c : Cluster) (tables : Tables) (ts : List Turn) (counts : List ℕ) (node place sender number : ℕ) : Type 0 where
  pub turn : Turn
  pub found : slice_get ts place ≡ Some turn
  pub fewer : count_at counts place < turn.recorded
  pub message : Message
  pub there : message_at c (Some (sender, number)) ≡ Some message
  pub none : BringsNone tables.dots (matter tables node (count_at counts node)) node message
