use Rattle.std.proofs.Common.{◌≡◌, drop}
use Rattle.explore_network.specs.Turns.{place_from, place_of}
use Rattle.explore_network.proofs.turns.find.Given as goal

-- the place is among those that are left
abbrev pub invariant-loop-place : goal.invariant-loop-place
invariant-loop-place g l = place_of l.turns l.kept ≡ place_from l.place (drop l.place l.turns) l.kept
