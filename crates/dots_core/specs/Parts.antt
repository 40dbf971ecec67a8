-- A set of dots, kept as the clocks of each name, by rising name.
use Rattle.std.specs.Prelude.{◌≡◌, ℕ, zero, suc, List, [], ◌∷◌, ◌++◌, map, length, slice_index_or}
use Rattle.std.specs.FinSet as set
use Rattle.std.specs.List.{AllByRecursion}
use Rattle.dots_core.specs.Names.{most_names}
use Rattle.dots_core.specs.declared.dot.Dot.{Dot}
use Rattle.dots_core.specs.Dots.{Dots, dot}
use Rattle.dots_core.specs.Clocks.{Clocks, no_clocks, IsCanonical}

-- c, c - 1, down to 1
abbrev pub count_down : ℕ → List ℕ
count_down zero = []
count_down (suc c) = suc c ∷ count_down c

-- the dots of these parts, where the first part is of name n, the second of the name after it, and so on
abbrev pub dots_from : ℕ → List Clocks → List Dot
dots_from n [] = []
dots_from n (p ∷ ps) = map (dot n) (count_down p.clock ++ p.cloud) ++ dots_from (suc n) ps

abbrev pub dots_of_parts : List Clocks → Dots
dots_of_parts ps = set.from_list (dots_from 0 ps)

-- the clocks of the name; none if the list has no part for it
abbrev pub part_at : List Clocks → ℕ → Clocks
part_at ps n = slice_index_or ps n no_clocks

abbrev pub AllCanonical : List Clocks → Type 0
AllCanonical ps = AllByRecursion IsCanonical ps

-- one part for each name, each kept in its one form
pub record AreParts (ps : List Clocks) : Type 0 where
  pub names : length ps ≡ most_names
  pub canonical : AllCanonical ps
