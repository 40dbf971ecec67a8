-- The sets of the first names.
use Rattle.std.specs.Prelude.{ℕ, zero, suc}
use Rattle.std.specs.FinSet as set
use Rattle.dots_core.specs.Names.{most_names, Names}

-- the names below a number
unfoldable pub names_below : ℕ → Names
names_below zero = set.empty
names_below (suc n) = set.insert (names_below n) n

abbrev pub all_names : Names
all_names = names_below most_names
