-- The future of a step, as one pass over the remaining steps gathers it.
use Rattle.std.specs.Prelude.{ℕ, ◌==◌, ◌||◌, if◌then◌else◌, List, [], ◌∷◌, map}
use Rattle.std.specs.List.{list_any}
use Rattle.journal_core.specs.Journals.{Kept, is_consequence}

-- step n and what follows from it, greatest first: a step still to come is added to those found if it is step n, or a direct consequence
-- of one of those found
abbrev pub gathered : List Kept → ℕ → List Kept → List Kept → List Kept
gathered ks n found [] = found
gathered ks n found (j ∷ js) =
    gathered ks n (if (j.number == n) || list_any (λ k. is_consequence ks k j) found then j ∷ found else found) js

-- the numbers of the steps that one pass gathers
abbrev pub gathered_numbers : List Kept → ℕ → List ℕ
gathered_numbers ks n = map (λ k. k.number) (gathered ks n [] ks)
