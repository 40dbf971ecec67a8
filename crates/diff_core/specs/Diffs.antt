-- How two online lists differ.
use Rattle.std.specs.Prelude.{Bool, false, not, List, [], ◌∷◌, filter, if◌then◌else◌}
use Rattle.std.specs.Ordering.{is_lt, eq_by_cmp}
use Rattle.diff_core.specs.Rows.{Row, row_cmp, is_among}

-- the rows of the first list that are not in the second, in the order of the first
abbrev pub alone : List Row → List Row → List Row
alone rows others = filter (λ row. not (is_among others row)) rows

-- the rows of the list but for those at its beginning that are below this row
abbrev pub not_below : Row → List Row → List Row
not_below row [] = []
not_below row (r ∷ rs) = if is_lt (row_cmp r row) then not_below row rs else r ∷ rs

-- whether the first of the rows is this one
abbrev pub begins_with : Row → List Row → Bool
begins_with row [] = false
begins_with row (r ∷ rs) = eq_by_cmp row_cmp r row
