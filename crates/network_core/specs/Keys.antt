-- What shows that the clusters of two beginnings of a run of the network are alike: how the dots that matter stand.
use Rattle.std.specs.Prelude.{◌≡◌, ℕ, ◌==◌, true, false, List, [], ◌∷◌, ◌++◌, slice_get, Option, Some, None, Ok}
use Rattle.std.specs.Option.{option_to_list}
use Rattle.dots_core.specs.declared.dot.Dot.{Dot}
use Rattle.payload_core.specs.Messages.{Message, numbered}
use Rattle.store_core.specs.Stores.{standing, store_of}
use Rattle.replica_core.specs.declared.node_limits.NodeLimits.{NodeLimits}
use Rattle.replica_core.specs.Replicas.{Replica, delta_message, opening, request_of}
use Rattle.node_core.specs.Operations.{Operation, Broadcast, Extract, Request, Answer}
use Rattle.node_core.specs.Nodes.{Node}
use Rattle.journal_core.specs.Journals.{Kept}
use Rattle.bench_core.specs.Clusters.{Cluster}
use Rattle.bench_core.specs.Runs.{runs}
use Rattle.network_core.specs.Alike.{Cares, ClusterAlike}
use Rattle.network_core.specs.Made.{own_after}
use Rattle.network_core.specs.NetworkRuns.{ordered}

-- what a step sends: a message that its node's steps other than deliveries decide (`Some (Some message)`), or one with
-- what the node has seen, by deliveries too (`Some None`), or nothing (`None`)
abbrev pub sent_own : Operation → Replica → Option (Option Message)
sent_own Broadcast r = Some (Some (delta_message r))
sent_own Request r = Some (Some (request_of r))
sent_own (Extract names) r = Some None
sent_own (Answer sender number) r = Some None
sent_own _ r = None

-- what steps of one node send, one after another
abbrev pub own_sent : Replica → List Kept → List (Option Message)
own_sent r [] = []
own_sent r (k ∷ ks) = option_to_list (sent_own k.step r) ++ own_sent (own_after k.step r) ks

-- the messages that a node sends in these steps, by number; `None` for that of an extract or an answer
abbrev pub sent_of : NodeLimits → ℕ → List Kept → List (Option Message)
sent_of l n first = own_sent (opening n l) (ordered first n)

-- in both clusters the dots that matter stand alike: at each node those of other names than its own, and in each
-- message of an extract or an answer
pub record StandAlike (t : Cares) (l : NodeLimits) (first : List Kept) (c d : Cluster) : Type 0 where
  pub nodes : (n : ℕ) (x y : Node) → slice_get c n ≡ Some x → slice_get d n ≡ Some y → (q : Dot) → t.at n q ≡ true → (q.name == n) ≡ false →
      standing y.replica.store q ≡ standing x.replica.store q
  pub messages : (n i : ℕ) (x y : Node) (m k : Message) → slice_get c n ≡ Some x → slice_get d n ≡ Some y → numbered x.outbox i ≡ Some m →
      numbered y.outbox i ≡ Some k →
      numbered (sent_of l n first) i ≡ Some None → (q : Dot) → t.of n i q ≡ true → standing (store_of k) q ≡ standing (store_of m) q

-- if each node took the same steps, deliveries apart, clusters in which the dots that matter stand alike are alike
abbrev pub StandAlikeLaw : Type 0
StandAlikeLaw =
    (l : NodeLimits) (count : ℕ) (first other : List Kept) (t : Cares) (c d : Cluster) → runs l count first ≡ Ok c → runs l count other ≡ Ok d →
    ((n : ℕ) → ordered other n ≡ ordered first n) → StandAlike t l first c d → ClusterAlike t c d
