use Rattle.std.proofs.Common.{◌≡◌, Ok, drop}
use Rattle.bench_core.specs.Clusters.{Cluster}
use Rattle.bench_core.specs.Runs.{then_runs}
use Rattle.change_core.specs.Walks.{steps_in, IsWalk}
use Rattle.change_core.proofs.walk.Walk.go_to.Given as goal

-- what is left leads on from where the walk is
abbrev pub invariant-loop-turn : goal.invariant-loop-turn
invariant-loop-turn g l = (first : Cluster) → IsWalk l.steps first l.fn.self →
    (then_runs (Ok first) (steps_in l.steps l.places) ≡ then_runs (Ok l.self.cluster) (steps_in l.steps (drop l.turn l.places))) × IsWalk l.steps first l.self
