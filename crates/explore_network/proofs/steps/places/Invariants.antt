use Rattle.std.proofs.Common.{◌≡◌, List, length, take}
use Rattle.journal_core.specs.Journals.{Kept}
use Rattle.explore_network.specs.Walks.{steps_at}
use Rattle.explore_network.proofs.steps.places.Given as goal

-- those of the first steps
abbrev pub invariant-loop-place : goal.invariant-loop-place
invariant-loop-place g l = (j : List Kept) → length j ≡ l.count → steps_at j l.places.items ≡ take l.place j
