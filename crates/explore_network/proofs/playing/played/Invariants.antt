use Rattle.std.proofs.Common.{◌≡◌, Ok, drop}
use Rattle.bench_core.specs.Clusters.{Cluster}
use Rattle.bench_core.specs.Runs.{runs, then_runs}
use Rattle.explore_network.specs.Walks.{steps_at}
use Rattle.explore_network.proofs.playing.played.Given as goal

-- what is left leads on
abbrev pub invariant-loop-index : goal.invariant-loop-index
invariant-loop-index g l = (end : Cluster) → runs l.fn.limits l.fn.count (steps_at l.steps l.path) ≡ Ok end → then_runs (Ok l.cluster) (steps_at l.steps (drop l.index l.path)) ≡ Ok end
