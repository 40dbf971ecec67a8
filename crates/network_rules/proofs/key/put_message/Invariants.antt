use Rattle.std.proofs.Common.{◌≡◌, ◌++◌}
use Rattle.network_rules.specs.Queries.{standings_of, message_queries}
use Rattle.network_rules.proofs.key.put_message.Given as goal

-- of the first dots
abbrev pub invariant-loop-place : goal.invariant-loop-place
invariant-loop-place g l = l.key.items ≡ l.fn.key.items ++ standings_of l.cluster (message_queries l.dots l.node l.number l.names l.place)
