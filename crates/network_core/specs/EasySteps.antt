-- Easy steps: a walk over runs of the network that takes one as soon as it can come misses no outcome.
use Rattle.std.specs.Prelude.{◌≡◌, ◌≢◌, ◌⊎◌, ℕ, ◌≤◌, Bool, true, false, List, [], ◌∷◌, ◌++◌, slice_get, Some, Ok, Err}
use Rattle.std.specs.List.{AllByRecursion}
use Rattle.replica_core.specs.declared.node_limits.NodeLimits.{NodeLimits}
use Rattle.replica_core.specs.Replicas.{is_known}
use Rattle.node_core.specs.Operations.{Operation, Join, Leave, LeaveAll, Update, Broadcast, Request, Up, Down, Deliver}
use Rattle.node_core.specs.Nodes.{Node}
use Rattle.journal_core.specs.Journals.{Kept}
use Rattle.bench_core.specs.declared.fault.Fault.TheVariants.{EntriesFull}
use Rattle.bench_core.specs.Clusters.{Cluster}
use Rattle.bench_core.specs.Runs.{runs}
use Rattle.network_core.specs.NetworkRuns.{IsNetworkRun, ordered}
use Rattle.network_core.specs.Room.{made}

-- whether a step is of a kind that is always easy: it concerns only its node's own entries, that node's delta and names
-- that the node knows
abbrev pub is_always_easy : Operation → Bool
is_always_easy (Join presence) = true
is_always_easy (Leave pid topic key) = true
is_always_easy (LeaveAll pid) = true
is_always_easy (Update presence) = true
is_always_easy Broadcast = true
is_always_easy Request = true
is_always_easy (Down name) = true
is_always_easy _ = false

-- step s of this node as a kept step, with this number
abbrev pub step_of : ℕ → ℕ → Operation → Kept
step_of number node s = record { number = number; node = node; step = s }

-- step s of a node is easy after the steps `first`: it is of a kind that always is, or an up of a name that the node
-- then knows
pub data IsEasy (l : NodeLimits) (count : ℕ) (first : List Kept) (node : ℕ) (s : Operation) : Type 0 where
  IsAlwaysEasy : is_always_easy s ≡ true → IsEasy l count first node s
  IsKnownUp : (name : ℕ) → s ≡ Up name →
      ((c : Cluster) (x : Node) → runs l count first ≡ Ok c → slice_get c node ≡ Some x → is_known x.replica name ≡ true) → IsEasy l count first node s

-- a step that an easy step of node n may pass: a delivery at n, or a step of another node
abbrev pub MayBePassed : ℕ → Kept → Type 0
MayBePassed n k = (k.node ≢ n) ⊎ ((k.node ≡ n) × ((sender : ℕ) × ((message : ℕ) × (k.step ≡ Deliver sender message))))

-- an easy step may pass all steps directly before it that are deliveries at its node or steps of other nodes, and the
-- run still ends in the same cluster, unless a step is then refused as `EntriesFull`
abbrev pub EagerLaw : Type 0
EagerLaw =
    (l : NodeLimits) (count number node : ℕ) (first before rest : List Kept) (s : Operation) → IsEasy l count first node s →
    AllByRecursion (MayBePassed node) before →
    ((xs ys : List Kept) (k : Kept) → before ≡ xs ++ k ∷ ys →
    runs l count ((first ++ xs) ++ step_of number node s ∷ k ∷ []) ≢ Err EntriesFull) → (c : Cluster) →
    runs l count (first ++ (before ++ step_of number node s ∷ rest)) ≡ Ok c → runs l count (first ++ step_of number node s ∷ (before ++ rest)) ≡ Ok c

-- a run of the network that begins with these steps leads to this cluster
pub record GoesOn (l : NodeLimits) (count : ℕ) (j : List Kept) (lost again : ℕ) (first : List Kept) (c : Cluster) : Type 0 where
  pub rest : List Kept
  pub is_run : IsNetworkRun j lost again (first ++ rest)
  pub ends : runs l count (first ++ rest) ≡ Ok c

-- a walk may take a node's next step other than a delivery at once, if the step is easy: for each run with this
-- beginning that makes no more entries than a node may hold, a run that goes on with this step leads to the same cluster
abbrev pub EagerStepLaw : Type 0
EagerStepLaw =
    (l : NodeLimits) (count : ℕ) (j : List Kept) (lost again node : ℕ) (first more : List Kept) (k : Kept) (c : Cluster) →
    (g : GoesOn l count j lost again first c) → ordered g.rest node ≡ k ∷ more → IsEasy l count first node k.step → made (first ++ g.rest) ≤ l.entries →
    GoesOn l count j lost again (first ++ k ∷ []) c
