use Rattle.std.proofs.Common.{◌≡◌, drop}
use Rattle.explore_network.specs.Turns.{noted_all, turns_of}
use Rattle.explore_network.proofs.turns.turns_of.Given as goal

-- what is left to note leads to all
abbrev pub invariant-loop-kept : goal.invariant-loop-kept
invariant-loop-kept g l = noted_all l.steps l.turns.items (drop l.kept-index l.steps) ≡ turns_of l.steps l.count
