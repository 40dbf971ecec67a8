-- The dots that nodes can see in a run of the network: those that the nodes' own steps take, whatever is delivered.
use Rattle.std.specs.Prelude.{◌≡◌, ℕ, ◌<◌, ◌≤◌, Bool, true, List, slice_get, Some, Ok}
use Rattle.std.specs.FinSet as set
use Rattle.dots_core.specs.declared.dot.Dot.{Dot}
use Rattle.replica_core.specs.declared.node_limits.NodeLimits.{NodeLimits}
use Rattle.replica_core.specs.Replicas.{opening, own_clock}
use Rattle.node_core.specs.Nodes.{Node}
use Rattle.journal_core.specs.Journals.{Kept}
use Rattle.bench_core.specs.Clusters.{Cluster}
use Rattle.bench_core.specs.Runs.{runs}
use Rattle.network_core.specs.Alike.{ReplicaAlike}
use Rattle.network_core.specs.Made.{own_from}
use Rattle.network_core.specs.NetworkRuns.{IsNetworkRun, ordered}

-- a step among these took the dot: its name is a node's, and its clock is from 1 to the own clock to which that node's
-- steps other than deliveries lead
pub record IsGiven (l : NodeLimits) (count : ℕ) (ks : List Kept) (d : Dot) : Type 0 where
  pub node : d.name < count
  pub least : 1 ≤ d.clock
  pub most : d.clock ≤ own_clock (own_from (opening d.name l) (ordered ks d.name))

-- each dot that a node has seen at the end of a run was taken by a step of the node that the dot names
abbrev pub SeenLaw : Type 0
SeenLaw =
    (l : NodeLimits) (count : ℕ) (ks : List Kept) (c : Cluster) (n : ℕ) (x : Node) (d : Dot) → runs l count ks ≡ Ok c → slice_get c n ≡ Some x →
    set.contains x.replica.store.seen d ≡ true → IsGiven l count ks d

-- `wanted` holds of each dot that a step of the recorded run takes
abbrev pub WantsSeen : NodeLimits → List Kept → ℕ → (Dot → Bool) → Type 0
WantsSeen l j count wanted = (d : Dot) → IsGiven l count j d → wanted d ≡ true

-- if `wanted` holds of each dot that a step of the recorded run takes, and a node's replicas at the ends of two runs of
-- the network are alike in the wanted dots, the replicas are the same
abbrev pub SameReplicaLaw : Type 0
SameReplicaLaw =
    (l : NodeLimits) (count : ℕ) (j r s : List Kept) (lost again n : ℕ) (wanted : Dot → Bool) (c d : Cluster) (x y : Node) → WantsSeen l j count wanted →
    IsNetworkRun j lost again r → IsNetworkRun j lost again s → runs l count r ≡ Ok c → runs l count s ≡ Ok d → slice_get c n ≡ Some x →
    slice_get d n ≡ Some y →
    ReplicaAlike wanted x.replica y.replica → y.replica ≡ x.replica
