-- What several changes of an online list, made in turn, come to.
use Rattle.std.specs.Prelude.{◌≡◌, ℕ, ◌+◌, if◌then◌else◌, List, [], ◌∷◌, count_by, drop}
use Rattle.std.specs.Ordering.{eq_by_cmp}
use Rattle.diff_core.specs.Rows.{Row, row_cmp}
use Rattle.diff_core.specs.Diffs.{not_below, begins_with}

-- how often a row stands among these
abbrev pub times : Row → List Row → ℕ
times row rows = count_by (eq_by_cmp row_cmp row) rows

-- each row stands as often in the first list and among those that joined, together, as in the second and among those that left
abbrev pub ComesTo : List Row → List Row → List Row → List Row → Type 0
ComesTo before after left joined = (row : Row) → times row before + times row joined ≡ times row after + times row left

-- the rows of a list that are left once each row of the other has taken out one equal to it; for two lists that do not fall
abbrev pub beyond : List Row → List Row → List Row
beyond [] others = []
beyond (row ∷ rows) others =
    if begins_with row (not_below row others) then beyond rows (drop 1 (not_below row others))
    else row ∷ beyond rows (not_below row others)
