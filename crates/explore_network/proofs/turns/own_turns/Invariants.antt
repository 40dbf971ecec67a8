use Rattle.std.proofs.Common.{◌≡◌}
use Rattle.explore_network.specs.Turns.{own_turns}
use Rattle.explore_network.proofs.turns.own_turns.Given as goal

abbrev pub invariant-loop-node : goal.invariant-loop-node
invariant-loop-node g l = l.turns.items ≡ own_turns l.steps l.node
