-- Where a run leads, given what each node did, in its order.
use Rattle.std.specs.Prelude.{List, length, Option, Some, None, Result, Ok, Err, option_map}
use Rattle.std.specs.Option.{option_and_then}
use Rattle.journal_core.specs.Journals.{Kept}
use Rattle.bench_core.specs.declared.fault.Fault.{Fault}
use Rattle.bench_core.specs.Clusters.{Cluster}
use Rattle.bench_core.specs.Limits.{node_limits}
use Rattle.bench_core.specs.Machine.{Machine, cluster_of}
use Rattle.bench_core.specs.Runs.{runs}
use Rattle.order_core.specs.Orders.{order_of}
use Rattle.diff_core.specs.Rows.{Row}
use Rattle.change_core.specs.declared.change.Change.{Change}
use Rattle.change_core.specs.Changes.{changed}
use Rattle.change_core.specs.Questions.{Question, rows_at, rows_of}

-- the cluster, where there is one
abbrev pub reached : Result Cluster Fault → Option Cluster
reached (Ok c) = Some c
reached (Err e) = None

-- what the steps lead to from empty nodes, with the names and limits of the machine; or the fault of the first that is
-- refused
abbrev pub run_of : Machine → List Kept → Result Cluster Fault
run_of m ks = runs (node_limits m.limits) (length m.names) ks

-- what an order of these steps leads to, if they have one and each of its steps is accepted
unfoldable pub end_of : Machine → List Kept → Option Cluster
end_of m ks = option_and_then (λ run. reached (run_of m run)) (order_of ks)

-- the rows that are asked for, at the end of a run of the nodes' steps with this change, if such a run is possible
unfoldable pub rows_after : Machine → Question → Change → Option (List Row)
rows_after m q c = option_map (rows_at q) (end_of m (changed m.state.remaining c))

-- the rows at the end of the recorded run
abbrev pub rows_before : Machine → Question → List Row
rows_before m q = rows_of q (cluster_of m)
