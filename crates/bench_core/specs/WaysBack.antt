-- The inverse of a remaining step, compared with what the undo of the step would make of its node.
use Rattle.std.specs.Prelude.{◌≡◌, ℕ, length, slice_get, slice_set, Some, None, Ok}
use Rattle.node_core.specs.Nodes.{Node}
use Rattle.node_core.specs.Inverses.{Inverse, LeadsBack}
use Rattle.journal_core.specs.Journals.{Kept, find_number, first_consequence, without}
use Rattle.bench_core.specs.Limits.{node_limits}
use Rattle.bench_core.specs.Clusters.{Cluster}
use Rattle.bench_core.specs.Runs.{runs}
use Rattle.bench_core.specs.Machine.{Machine, cluster_of}

-- the inverse leads from this node, as the remaining steps give it, back to what they give without step n; all other nodes are the same
-- with and without it
pub record LeadsOut (m : Machine) (n node : ℕ) (inverse : Inverse) : Type 0 where
  pub cluster : Cluster
  pub is_now : cluster_of m ≡ Ok cluster
  pub earlier : Node
  pub later : Node
  pub at : slice_get cluster node ≡ Some later
  pub leads : LeadsBack inverse later earlier
  pub left_out : runs (node_limits m.limits) (length m.names) (without m.state.remaining n) ≡ Ok (slice_set cluster node earlier)

-- if step n remains and has no consequence, the inverse leads the step's node back to what the other remaining steps make of it
abbrev pub IsWayBack : Machine → ℕ → Inverse → Type 0
IsWayBack m n inverse =
    (step : Kept) → find_number m.state.remaining n ≡ Some step → first_consequence m.state.remaining n ≡ None → LeadsOut m n step.node inverse
