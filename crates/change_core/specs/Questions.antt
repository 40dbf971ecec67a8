-- What is asked about, and the rows that a cluster shows of it.
use Rattle.std.specs.Prelude.{ℕ, List, [], filter, ◌&&◌, slice_get, Bool, Option, Some, None, Result, Ok, Err}
use Rattle.std.specs.Str.{bytes_eq}
use Rattle.node_core.specs.Nodes.{Node}
use Rattle.bench_core.specs.declared.fault.Fault.{Fault}
use Rattle.bench_core.specs.Clusters.{Cluster}
use Rattle.diff_core.specs.Rows.{Row}
use Rattle.diff_core.specs.Sorting.{online_of}

-- the presences of this topic and key, as this node shows them
pub record Question : Type 0 where
  pub node : ℕ
  pub topic : List ℕ
  pub key : List ℕ

abbrev pub is_of : List ℕ → List ℕ → Row → Bool
is_of topic key row = bytes_eq row.topic topic && bytes_eq row.key key

-- the rows of the topic and the key in the node's online list; none if there is no such node
abbrev pub rows_in : List ℕ → List ℕ → Option Node → List Row
rows_in topic key None = []
rows_in topic key (Some node) = filter (is_of topic key) (online_of node.replica)

-- the rows of the node's online list that are asked for
unfoldable pub rows_at : Question → Cluster → List Row
rows_at q c = rows_in q.topic q.key (slice_get c q.node)

abbrev pub rows_of : Question → Result Cluster Fault → List Row
rows_of q (Ok c) = rows_at q c
rows_of q (Err e) = []
