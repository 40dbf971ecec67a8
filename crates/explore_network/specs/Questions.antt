-- What a question asks, and what a cluster shows to it.
use Rattle.std.specs.Prelude.{◌<◌, ℕ, List, [], ◌∷◌, map, slice_get, Option, Some, None}
use Rattle.replica_core.specs.Replicas.{Replica}
use Rattle.node_core.specs.Nodes.{Node}
use Rattle.bench_core.specs.Clusters.{Cluster}
use Rattle.diff_core.specs.Rows.{Row}
use Rattle.change_core.specs.Questions.{rows_in}
use Rattle.explore_network.specs.declared.question.Question.{Question as Asked}
use Rattle.explore_network.specs.declared.question.Question.TheVariants as questions

-- what is asked about: the whole cluster, a node's replica, or the rows of a topic and a key in a node's online list
pub data Question : Type 0 where
  OfCluster : Question
  OfNode : (node : ℕ) → Question
  OfPresence : (node : ℕ) (topic key : List ℕ) → Question

abbrev pub plain : {X : Type 0} → Asked X → Question
plain questions.Cluster = OfCluster
plain (questions.Node node) = OfNode node
plain (questions.Presence node topic key) = OfPresence node topic key

-- if the question is about a node, that is one of the first `count`
abbrev pub IsThere : ℕ → Question → Type 0
IsThere count OfCluster = Unit {0}
IsThere count (OfNode node) = node < count
IsThere count (OfPresence node topic key) = node < count

-- the node that the question is about; `None` for the whole cluster
abbrev pub node_of : Question → Option ℕ
node_of OfCluster = None
node_of (OfNode node) = Some node
node_of (OfPresence node topic key) = Some node

-- the node's replica, as a list; empty if there is no such node
abbrev pub replicas_in : Option Node → List Replica
replicas_in None = []
replicas_in (Some x) = x.replica ∷ []

-- what a cluster shows to a question: two clusters differ if they show different things
pub data Shown : Type 0 where
  Rows : List Row → Shown
  Replicas : List Replica → Shown

-- what a cluster shows: the rows of the topic and the key in the node's online list; the node's replica, without the
-- messages that the node sent; or the replicas of all nodes
unfoldable pub shown : Question → Cluster → Shown
shown OfCluster c = Replicas (map (λ x. x.replica) c)
shown (OfNode node) c = Replicas (replicas_in (slice_get c node))
shown (OfPresence node topic key) c = Rows (rows_in topic key (slice_get c node))
