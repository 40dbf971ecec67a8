-- Which dots matter where in a run of the network, and when one beginning of a run serves for another.
use Rattle.std.specs.Prelude.{◌≡◌, ℕ, suc, ◌+◌, ◌<◌, ◌≤◌, Bool, true, false, List, [], ◌∷◌, ◌++◌, filter, length, Some, Ok}
use Rattle.std.specs.List.{AllByRecursion}
use Rattle.std.specs.FinSet as set
use Rattle.dots_core.specs.declared.dot.Dot.{Dot}
use Rattle.payload_core.specs.Messages.{Message}
use Rattle.replica_core.specs.declared.node_limits.NodeLimits.{NodeLimits}
use Rattle.node_core.specs.Operations.{Operation, Extract, Deliver, Answer, sends}
use Rattle.journal_core.specs.Journals.{Kept}
use Rattle.bench_core.specs.Clusters.{Cluster, message_at, step}
use Rattle.bench_core.specs.Laws.{delivery}
use Rattle.bench_core.specs.Runs.{runs}
use Rattle.network_core.specs.Alike.{Cares, ClusterAlike, Follows, is_compared}
use Rattle.network_core.specs.EasySteps.{GoesOn}
use Rattle.network_core.specs.NetworkRuns.{IsNetworkRun, HaveSame, deliveries, how_many, is_delivery, is_of_kind, ordered}
use Rattle.network_core.specs.Room.{made}

-- which dots matter: `at n p` tells those in the store of node n after p of its steps other than deliveries, `of n i`
-- those in message i of node n
pub record Cone : Type 0 where
  pub at : ℕ → ℕ → Dot → Bool
  pub of : ℕ → ℕ → Dot → Bool

-- how many of a node's steps in w are no deliveries
abbrev pub position : List Kept → ℕ → ℕ
position w n = length (ordered w n)

-- what matters after these steps
abbrev pub cares : Cone → List Kept → Cares
cares t w = record { at = λ n. t.at n (position w n); of = t.of }

-- how many of the steps are sends
abbrev pub sends_in : List Kept → ℕ
sends_in ks = length (filter (λ k. sends k.step) ks)

-- whether a step can send what its node has of a name: an extract that has the name, or any answer
abbrev pub says : Operation → ℕ → Bool
says (Extract names) name = set.contains names name
says (Answer sender number) name = true
says _ name = false

-- the cone is closed: what matters in one place matters in each place from which a run of the network can bring it
pub record IsCone (j : List Kept) (t : Cone) : Type 0 where
  -- what matters to a node after a step other than a delivery mattered to it before that step
  pub before : (n p : ℕ) (d : Dot) → t.at n (suc p) d ≡ true → t.at n p d ≡ true
  -- what matters to a node before its first step other than a delivery matters in each message of which j has a
  -- delivery at the node
  pub read : AllByRecursion (λ (k : Kept). (sender number : ℕ) → k.step ≡ Deliver sender number → (d : Dot) → t.at k.node 0 d ≡ true →
      t.of sender number d ≡ true) j
  -- what matters in the message of an extract or an answer, and can come from what its node has, matters to the node
  -- before that step, or is the node's own
  pub sent : (n : ℕ) (first rest : List Kept) (k : Kept) → ordered j n ≡ first ++ k ∷ rest → (d : Dot) → t.of n (sends_in first + 1) d ≡ true →
      says k.step d.name ≡ true → is_compared (t.at n (length first)) n d ≡ true

-- if the cone is closed, then in each run of the network what matters after each step comes from what matters before it
abbrev pub ConeLaw : Type 0
ConeLaw =
    (l : NodeLimits) (count : ℕ) (j : List Kept) (lost again : ℕ) (t : Cone) (first rest : List Kept) (c : Cluster) → IsCone j t →
    IsNetworkRun j lost again (first ++ rest) → runs l count first ≡ Ok c → Follows c (cares t first) rest (cares t (first ++ rest))

-- after both beginnings the same is left to do: each node took the same steps other than deliveries, in the same order,
-- and the same deliveries came, each as often
pub record LeaveSame (first other : List Kept) : Type 0 where
  pub own : (n : ℕ) → ordered other n ≡ ordered first n
  pub delivered : HaveSame (deliveries other) (deliveries first)

-- some run of the network that begins with `first` leads to a cluster that is alike to c in what matters at the end
pub record GoesLike (l : NodeLimits) (count : ℕ) (j : List Kept) (lost again : ℕ) (t : Cone) (first : List Kept) (c : Cluster) : Type 0 where
  pub end : Cluster
  pub alike : ClusterAlike (cares t j) c end
  pub goes : GoesOn l count j lost again first end

-- where no node can get too many entries, beginning `other` serves for `first` if the same is left to do after both and their
-- clusters are alike in what matters: whatever a run leads to from `first`, a run from `other` leads to a cluster that is alike
abbrev pub StandsLaw : Type 0
StandsLaw =
    (l : NodeLimits) (count : ℕ) (j : List Kept) (lost again : ℕ) (t : Cone) (first other : List Kept) (old new c : Cluster) → IsCone j t → made j ≤ l.entries →
    runs l count first ≡ Ok old → runs l count other ≡ Ok new → LeaveSame first other → ClusterAlike (cares t first) old new →
    GoesOn l count j lost again first c → GoesLike l count j lost again t other c

-- a delivery at this node of this message brings nothing that matters: the message was sent, and has no dot that
-- matters there
pub record IsIdle (t : Cares) (c : Cluster) (node sender number : ℕ) : Type 0 where
  pub message : Message
  pub there : message_at c (Some (sender, number)) ≡ Some message
  pub nothing : (d : Dot) → t.at node d ≡ true → set.contains message.seen d ≡ false

-- where no node can get too many entries, a delivery can come at once if it is accepted, brings nothing that matters, and came less often
-- than it was recorded: whatever a run leads to from `first`, a run that goes on with this delivery leads to a cluster that is alike
abbrev pub IdleLaw : Type 0
IdleLaw =
    (l : NodeLimits) (count : ℕ) (j : List Kept) (lost again : ℕ) (t : Cone) (first : List Kept) (i node sender number : ℕ) (old new c : Cluster) → IsCone j t →
    made j ≤ l.entries → runs l count first ≡ Ok old → IsIdle (cares t first) old node sender number → step old node (Deliver sender number) ≡ Ok new →
    how_many (is_of_kind node sender number) first < how_many (is_of_kind node sender number) j → GoesOn l count j lost again first c →
    GoesLike l count j lost again t (first ++ delivery i node sender number ∷ []) c

-- a node's next step can come at once if it is accepted and nothing more is delivered at the node: then a run that goes
-- on with this step leads to the same cluster
abbrev pub AloneLaw : Type 0
AloneLaw =
    (l : NodeLimits) (count : ℕ) (j : List Kept) (lost again node : ℕ) (first more : List Kept) (k : Kept) (old new c : Cluster) → runs l count first ≡ Ok old →
    step old k.node k.step ≡ Ok new → (g : GoesOn l count j lost again first c) → ordered g.rest node ≡ k ∷ more →
    AllByRecursion (λ (x : Kept). x.node ≡ node → is_delivery x.step ≡ false) g.rest → GoesOn l count j lost again (first ++ k ∷ []) c
