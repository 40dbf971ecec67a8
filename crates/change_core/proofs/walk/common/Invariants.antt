use Rattle.std.proofs.Common.{◌≡◌, take}
use Rattle.change_core.specs.Walks.{places_of}
use Rattle.change_core.proofs.walk.common.Given as goal

-- the same so far
abbrev pub invariant-loop-turn : goal.invariant-loop-turn
invariant-loop-turn g l = take l.turn (places_of l.taken) ≡ take l.turn l.places
