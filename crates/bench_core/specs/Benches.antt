-- What a bench keeps, and how a step of one of its nodes and the undo of a step are answered.
use Rattle.std.specs.Prelude.{◌≡◌, ◌≢◌, ℕ, ◌+◌, ◌≤◌, IsTrue, List, length, slice_get, slice_set, Option, Some, None, Result, Ok, Err}
use Rattle.dots_core.specs.Names.{most_names}
use Rattle.replica_core.specs.Replicas.{own_clock}
use Rattle.node_core.specs.declared.inverse.Inverse as declared
use Rattle.node_core.specs.declared.step_fault.StepFault.{StepFault}
use Rattle.node_core.specs.declared.step_fault.StepFault.TheVariants.{OutOfMemory}
use Rattle.node_core.specs.Operations.{Operation}
use Rattle.node_core.specs.Nodes.{Node, take}
use Rattle.node_core.specs.Invariant.{IsNode}
use Rattle.node_core.specs.Inverses.{Inverse, plain_inverse, needs_no_memory, LeadsBack, LeadsSomewhere}
use Rattle.journal_core.specs.Journals.{Kept, find_number, first_consequence, AreBelow}
use Rattle.journal_core.specs.Holdings.{Held, kepts, find_held, inverse_of, AreAllHeld}
use Rattle.bench_core.specs.declared.reply.Reply.TheVariants.{Refused}
use Rattle.bench_core.specs.declared.fault.Fault.{Fault}
use Rattle.bench_core.specs.declared.fault.Fault.TheVariants.{HistoryFull}
use Rattle.bench_core.specs.Limits.{AreLimits, node_limits}
use Rattle.bench_core.specs.Chains.{Chain}
use Rattle.bench_core.specs.Clusters.{Cluster, step, opening_of, message_for, fault_of}
use Rattle.bench_core.specs.Machine.{Config, State, Machine, config_of, cluster_of, given, undo_reply, now}
use Rattle.bench_core.specs.Headline.{IsReached}

-- each node of the cluster keeps the invariant of a node
abbrev pub AreNodes : Cluster → Type 0
AreNodes c = (n : ℕ) (x : Node) → slice_get c n ≡ Some x → IsNode x

-- what each bench keeps, whatever was called on it
pub record IsBench (c : Config) (s : State) (nodes : Cluster) (hs : List Held) (taken : ℕ) : Type 0 where
  -- some calls lead to its state
  pub reached : IsReached c s
  -- the nodes are what the remaining steps give
  pub is_now : now c s ≡ Ok nodes
  -- the inverses lead back along the run of the remaining steps
  pub chain : Chain (Ok (opening_of (node_limits c.limits) c.nodes)) hs
  -- `taken` steps were ever taken
  pub count : taken ≡ given s.history
  pub fits : length s.history + length s.remaining ≤ c.limits.acts
  pub limits : AreLimits c.limits
  pub size : length nodes ≡ c.nodes
  pub few : c.nodes ≤ most_names
  pub kept : AreNodes nodes

-- the cluster that the remaining steps give: it has a node for each name, each node has the machine's limits, and no own clock is above
-- its limit
pub record HasCluster (m : Machine) : Type 0 where
  pub cluster : Cluster
  pub is_now : cluster_of m ≡ Ok cluster
  pub size : length cluster ≡ length m.names
  pub limits : (n : ℕ) (x : Node) → slice_get cluster n ≡ Some x → x.replica.limits ≡ node_limits m.limits
  pub clocks : (n : ℕ) (x : Node) → slice_get cluster n ≡ Some x → own_clock x.replica ≤ m.limits.clock

-- what each bench keeps, as its callers see it
pub record IsMachine (m : Machine) : Type 0 where
  -- some calls lead to its state
  pub reached : IsReached (config_of m) m.state
  -- the remaining steps give its nodes
  pub cluster : HasCluster m
  -- the history and the remaining steps together keep within the limit on acts, and so does the count of the numbers that were given
  pub fits : length m.state.history + length m.state.remaining ≤ m.limits.acts
  pub taken : given m.state.history ≤ m.limits.acts
  -- no remaining step has a number above the count of the numbers that were given
  pub numbers : AreBelow (given m.state.history + 1) m.state.remaining
  -- the limits are in their ranges, and there are at most `most_names` names
  pub limits : AreLimits m.limits
  pub few : length m.names ≤ most_names

-- each node's place is its name
abbrev pub IsNumbered : Cluster → Type 0
IsNumbered c = (n : ℕ) (x : Node) → slice_get c n ≡ Some x → x.replica.own ≡ n

-- what each cluster keeps
pub record IsCluster (c : Cluster) : Type 0 where
  pub kept : AreNodes c
  pub numbered : IsNumbered c
  pub few : length c ≤ most_names

-- step s of node n was accepted, which made cluster d of c, and inverse i leads the node back
pub record IsTaken (c : Cluster) (n : ℕ) (s : Operation) (i : Inverse) (d : Cluster) : Type 0 where
  pub earlier : Node
  pub later : Node
  pub at : slice_get c n ≡ Some earlier
  pub taken : take earlier s (message_for c s) ≡ Ok later
  pub leads : LeadsBack i later earlier
  pub gives : d ≡ slice_set c n later
  pub kept : IsNode later

-- the step of node n was accepted; or it was refused with the fault that `step` gives, or for want of memory, and nothing changed
abbrev pub Steps : {X : Type 0} → Cluster → ℕ → Operation → Result (declared.Inverse X) StepFault → Cluster → Type 0
Steps c n s (Ok i) d = IsTaken c n s (plain_inverse i) d
Steps c n s (Err fault) d = (d ≡ c) × (fault ≢ OutOfMemory → step c n s ≡ Err (fault_of fault))

-- node n is there, and the inverse leads from it back to some node
abbrev pub LeadsNodeBack : Cluster → ℕ → Inverse → Type 0
LeadsNodeBack c n i = (later : Node) × (slice_get c n ≡ Some later) × LeadsSomewhere i later

-- if the inverse leads node n back to some node, the cluster is as before, but with that node as node n
abbrev pub NodeGoesBack : Cluster → ℕ → Inverse → Cluster → Type 0
NodeGoesBack c n i d = (later earlier : Node) → slice_get c n ≡ Some later → LeadsBack i later earlier → d ≡ slice_set c n earlier

-- the inverse leads node n of cluster d back to what it was in cluster c; all other nodes are the same in both
pub record LeadsClusterBack (d : Cluster) (n : ℕ) (i : Inverse) (c : Cluster) : Type 0 where
  pub earlier : Node
  pub later : Node
  pub at : slice_get d n ≡ Some later
  pub leads : LeadsBack i later earlier
  pub gives : c ≡ slice_set d n earlier

-- step n can be taken back at this node: the step has no consequence, no inverse is lent, and the inverse of the step leads back from the
-- node
pub record IsBackable (nodes : Cluster) (hs : List Held) (n node : ℕ) : Type 0 where
  pub free : first_consequence (kepts hs) n ≡ None
  pub whole : AreAllHeld hs
  pub inverse : Inverse
  pub kept : inverse_of (find_held hs n) ≡ Some inverse
  pub earlier : Node
  pub later : Node
  pub at : slice_get nodes node ≡ Some later
  pub leads : LeadsBack inverse later earlier

-- step n is taken back without memory
abbrev pub NeedsNoMemory : List Held → ℕ → Type 0
NeedsNoMemory hs n = (i : Inverse) × (inverse_of (find_held hs n) ≡ Some i) × IsTrue (needs_no_memory i)

-- if step n can be taken back at this node, the cluster is as before, but with the node that the step's inverse leads back to, which keeps
-- the invariant of a node
abbrev pub GoesBack : Cluster → List Held → ℕ → ℕ → Cluster → Type 0
GoesBack nodes hs n node d = (b : IsBackable nodes hs n node) → (d ≡ slice_set nodes node b.earlier) × IsNode b.earlier

-- step n doesn't remain, and its undo is refused with this fault, which isn't HistoryFull
pub record IsGone (s : State) (n : ℕ) (fault : Fault) : Type 0 where
  pub gone : find_number s.remaining n ≡ None
  pub refused : undo_reply s n ≡ Refused fault
  pub other : fault ≢ HistoryFull

-- the node of this number, if there is one, in what the remaining steps give
abbrev pub IsNodeOf : Machine → ℕ → Option Node → Type 0
IsNodeOf m n node = (c : Cluster) × (now (config_of m) m.state ≡ Ok c) × (node ≡ slice_get c n)
