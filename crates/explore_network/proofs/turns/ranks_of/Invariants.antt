use Rattle.std.proofs.Common.{◌≡◌, ◌++◌, drop, take}
use Rattle.explore_network.specs.Turns.{ranks_from, ranks_of}
use Rattle.explore_network.proofs.turns.ranks_of.Given as goal

-- those of the first steps, and of those behind them
abbrev pub invariant-loop-place : goal.invariant-loop-place
invariant-loop-place g l = l.ranks.items ++ ranks_from l.turns (take l.place l.steps) (drop l.place l.steps) ≡ ranks_of l.turns l.steps
