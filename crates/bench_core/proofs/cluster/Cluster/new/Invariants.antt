use Rattle.std.proofs.Common.{◌≡◌, ◌≤◌}
use Rattle.std.specs.Prelude.{vec_capacity, vec_len}
use Rattle.bench_core.specs.Clusters.{opening_of}
use Rattle.bench_core.proofs.cluster.Cluster.new.Given as goal

abbrev pub invariant-loop-number : goal.invariant-loop-number
invariant-loop-number g l = record {
  opening : l.nodes.items ≡ opening_of l.limits l.number;
  count : vec_len l.nodes ≡ l.number;
  room : l.count ≤ vec_capacity l.nodes;
}
