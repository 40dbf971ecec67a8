use Rattle.std.proofs.Common.{◌≡◌, ◌<◌, ℕ, [], Ok}
use Rattle.std.specs.List.{AllByRecursion}
use Rattle.dots_core.specs.declared.dot.Dot.{Dot}
use Rattle.replica_core.specs.declared.node_limits.NodeLimits.{NodeLimits}
use Rattle.bench_core.specs.Clusters.{opening_of, Cluster}
use Rattle.bench_core.specs.Runs.{runs}
use Rattle.explore_network.proofs.Asking.{AskedSo}
use Rattle.explore_network.proofs.asked.put_all_asked.Given as goal

-- those of the first steps
abbrev pub invariant-loop-place : goal.invariant-loop-place
invariant-loop-place g l = record {
  names : AllByRecursion (λ (d : Dot). d.name < 32) l.fn.dots.items → AllByRecursion (λ (d : Dot). d.name < 32) l.dots.items;
  asked : (limits : NodeLimits) (count : ℕ) (end : Cluster) → l.fn.cluster ≡ opening_of limits count → l.fn.dots.items ≡ [] → runs limits count l.steps ≡ Ok end →
      AskedSo limits count l.steps l.place l.topic l.key l.dots.items l.cluster end;
}
