-- The changes that make a difference, as a text tells them.
use Rattle.std.specs.Prelude.{ℕ, suc, ◌+◌, ◌==◌, ◌&&◌, Bool, if◌then◌else◌, List, [], ◌∷◌, ◌++◌, slice_get, unwrap_or, Option, Some, None}
use Rattle.std.specs.Ordering.{eq_by_cmp}
use Rattle.std.specs.Cmp.Lexicographic.{pointwise}
use Rattle.diff_core.specs.Rows.{Row, row_cmp}
use Rattle.bench_core.specs.Machine.{Machine}
use Rattle.change_core.specs.declared.change.Change.{Change}
use Rattle.change_core.specs.declared.change.Kind.{Kind}
use Rattle.change_core.specs.Changes.{changes, rank}
use Rattle.change_core.specs.Questions.{Question}
use Rattle.change_core.specs.Ends.{rows_after, rows_before}

-- the changes of one step and kind that lead to the same rows: these rows, and the places beside which the step comes, nearest
-- first
pub record Difference : Type 0 where
  pub kind : Kind
  pub place : ℕ
  pub besides : List ℕ
  pub rows : List Row

-- the nearest of the places beside which the step comes; 0 if there are none
abbrev pub nearest : Difference → ℕ
nearest d = unwrap_or (slice_get d.besides 0) 0

-- the change of a difference in which the step comes beside the nearest of its places
abbrev pub nearest_change : Difference → Change
nearest_change d = record { kind = d.kind; place = d.place; beside = nearest d }

-- for the changes so far: how many are possible, how many make a difference, and the differences that they make
pub record Tally : Type 0 where
  pub possible : ℕ
  pub differ : ℕ
  pub told : List Difference

abbrev pub nothing : Tally
nothing = record { possible = 0; differ = 0; told = [] }

-- whether the rows are the same
abbrev pub are_same : List Row → List Row → Bool
are_same rows others = pointwise (eq_by_cmp row_cmp) rows others

-- whether the change is of the same step and kind as this difference, and leads to the same rows
abbrev pub is_with : Difference → Change → List Row → Bool
is_with d c rows = (d.place == c.place) && ((rank d.kind == rank c.kind) && are_same d.rows rows)

abbrev pub with_place : Difference → ℕ → Difference
with_place d j = record d { besides = d.besides ++ j ∷ [] }

abbrev pub difference : Change → List Row → Difference
difference c rows = record { kind = c.kind; place = c.place; besides = c.beside ∷ []; rows = rows }

-- the place of the first difference to which the change belongs, if the list begins at place n
abbrev pub place_with : ℕ → List Difference → Change → List Row → Option ℕ
place_with n [] c rows = None
place_with n (d ∷ ds) c rows = if is_with d c rows then Some n else place_with (suc n) ds c rows

-- the differences with one more change: added to the first to which it belongs, or as a new one at the end
abbrev pub told_too : List Difference → Change → List Row → List Difference
told_too [] c rows = difference c rows ∷ []
told_too (d ∷ ds) c rows = if is_with d c rows then with_place d c.beside ∷ ds else d ∷ told_too ds c rows

abbrev pub differs : Tally → Change → List Row → Tally
differs t c rows = record { possible = t.possible + 1; differ = t.differ + 1; told = told_too t.told c rows }

abbrev pub counted : List Row → Tally → Change → Option (List Row) → Tally
counted before t c None = t
counted before t c (Some rows) = if are_same rows before then record t { possible = t.possible + 1 } else differs t c rows

-- the tally with one more change, by where it leads
unfoldable pub tallied : Machine → Question → Tally → Change → Tally
tallied m q t c = counted (rows_before m q) t c (rows_after m q c)

unfoldable pub tally_from : Machine → Question → Tally → List Change → Tally
tally_from m q t [] = t
tally_from m q t (c ∷ cs) = tally_from m q (tallied m q t c) cs

-- the tally of all changes of the remaining steps
unfoldable pub tally_of : Machine → Question → Tally
tally_of m q = tally_from m q nothing (changes m.state.remaining)
