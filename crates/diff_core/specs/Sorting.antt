-- The online list as a function of a replica: the rows that are shown, put in order one by one.
use Rattle.std.specs.Prelude.{List, [], ◌∷◌, if◌then◌else◌}
use Rattle.std.specs.Ordering.{is_lt}
use Rattle.replica_core.specs.Replicas.{Replica}
use Rattle.diff_core.specs.Rows.{Row, row_cmp}
use Rattle.diff_core.specs.Online.{shown}

-- the rows with this one added, before the first that is not below it
abbrev pub with_row : Row → List Row → List Row
with_row x [] = x ∷ []
with_row x (y ∷ ys) = if is_lt (row_cmp y x) then y ∷ with_row x ys else x ∷ y ∷ ys

-- the rows in order
abbrev pub in_order : List Row → List Row
in_order [] = []
in_order (x ∷ xs) = with_row x (in_order xs)

-- the online list of a replica
unfoldable pub online_of : Replica → List Row
online_of r = in_order (shown r)
