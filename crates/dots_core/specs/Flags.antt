-- A set of names, kept as a list that says of each name whether it is in.
use Rattle.std.specs.Prelude.{ℕ, zero, suc, Bool, List, [], ◌∷◌, if◌then◌else◌}
use Rattle.std.specs.FinSet as set
use Rattle.dots_core.specs.Names.{most_names, Names}

-- the places at which the list has true, where its first place counts as n
abbrev pub names_from : ℕ → List Bool → Names
names_from n [] = set.empty
names_from n (b ∷ bs) = if b then set.insert (names_from (suc n) bs) n else names_from (suc n) bs

abbrev pub names_of_flags : List Bool → Names
names_of_flags bs = names_from 0 bs

-- whether the set has n, whether it has the next number, and so on for m of them
unfoldable pub flags_from : ℕ → ℕ → Names → List Bool
flags_from n zero names = []
flags_from n (suc m) names = set.contains names n ∷ flags_from (suc n) m names

unfoldable pub flags_of : Names → List Bool
flags_of names = flags_from 0 most_names names
