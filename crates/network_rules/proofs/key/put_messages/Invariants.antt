use Rattle.std.proofs.Common.{◌≡◌, ◌++◌}
use Rattle.network_rules.specs.Queries.{standings_of, queries_of_messages}
use Rattle.network_rules.proofs.key.put_messages.Given as goal

-- of the messages of the first steps
abbrev pub invariant-loop-place : goal.invariant-loop-place
invariant-loop-place g l = l.key.items ≡ l.fn.key.items ++ standings_of l.state.cluster.now (queries_of_messages l.cone l.run.steps.now l.run.ranks.now l.state.counts.now l.place)
