use Rattle.std.proofs.Common.{◌≡◌, take}
use Rattle.change_core.specs.Walks.{steps_in}
use Rattle.change_core.proofs.changed.all_places.Given as goal

-- the first steps stand at the places so far
abbrev pub invariant-loop-place : goal.invariant-loop-place
invariant-loop-place g l = steps_in l.steps l.places.items ≡ take l.place l.steps
