use Rattle.std.proofs.Common.{◌≡◌, ◌<◌, ◌+◌, ◌^◌, ◌++◌, ◌∷◌, [], List, length, take}
use Rattle.journal_core.specs.Journals.{Kept}
use Rattle.explore_network.specs.Turns.{counts_of}
use Rattle.explore_network.proofs.counts.counted.Given as goal

-- those of the first turns
abbrev pub invariant-loop-place : goal.invariant-loop-place
invariant-loop-place g l =
    (w : List Kept) → l.counts ≡ counts_of l.turns w → length w + 1 < 2 ^ 64 → l.new.items ≡ counts_of (take l.place l.turns) (w ++ l.kept ∷ [])
