use Rattle.std.proofs.Common.{◌≡◌, ◌++◌}
use Rattle.network_rules.specs.Queries.{standings_of, queries_at_nodes}
use Rattle.network_rules.proofs.key.put_nodes.Given as goal

-- at the first nodes
abbrev pub invariant-loop-node : goal.invariant-loop-node
invariant-loop-node g l = l.key.items ≡ l.fn.key.items ++ standings_of l.state.cluster.now (queries_at_nodes l.cone l.state.counts.now l.node)
