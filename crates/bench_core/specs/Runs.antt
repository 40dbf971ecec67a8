-- What a journal gives: its steps taken in order, from empty nodes.
use Rattle.std.specs.Prelude.{ℕ, List, [], ◌∷◌, Result, Ok, Err}
use Rattle.bench_core.specs.declared.fault.Fault.{Fault}
use Rattle.replica_core.specs.declared.node_limits.NodeLimits.{NodeLimits}
use Rattle.journal_core.specs.Journals.{Kept}
use Rattle.bench_core.specs.Clusters.{Cluster, opening_of, step}

-- the cluster reached so far, taken through the steps in order
abbrev pub then_runs : Result Cluster Fault → List Kept → Result Cluster Fault
then_runs (Err e) ks = Err e
then_runs (Ok c) [] = Ok c
then_runs (Ok c) (k ∷ ks) = then_runs (step c k.node k.step) ks

-- the opening cluster taken through the steps in order, or the first fault
abbrev pub runs : NodeLimits → ℕ → List Kept → Result Cluster Fault
runs l count ks = then_runs (Ok (opening_of l count)) ks
