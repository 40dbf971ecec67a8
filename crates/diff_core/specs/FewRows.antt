-- No row, one row, or any number of rows.
use Rattle.std.specs.Prelude.{◌≡◌, ⊤, List, [], ◌∷◌, Option, None, Some}
use Rattle.dots_core.specs.declared.dot.Dot.{Dot}
use Rattle.payload_core.specs.EntryLists.{pair_of}
use Rattle.payload_core.specs.Presences.{Entry, Entries, Presence}
use Rattle.std.specs.FinMap as fin
use Rattle.store_core.specs.EntryMoves.{found_at}
use Rattle.diff_core.specs.declared.few_rows.FewRows.{FewRows}
use Rattle.diff_core.specs.declared.few_rows.FewRows.TheVariants.{Nothing, One, More}
use Rattle.diff_core.specs.Rows.{Row}

-- the list has no row, or this one row alone; of `More` nothing is said
abbrev pub AreRows : {X : Type 0} → FewRows X → List Row → Type 0
AreRows Nothing rows = rows ≡ []
AreRows (One row) rows = rows ≡ row ∷ []
AreRows More rows = Unit {0}

-- there may be more rows than one
abbrev pub IsMore : {X : Type 0} → FewRows X → Type 0
IsMore Nothing = ⊥
IsMore (One row) = ⊥
IsMore More = ⊤

-- the entry, if there is one
abbrev pub pair_if : Option Entry → List (Dot × Presence)
pair_if None = []
pair_if (Some e) = pair_of e ∷ []

-- the entry at the dot, if there are both
abbrev pub found_if : Option Dot → Entries → List (Dot × Presence)
found_if None m = []
found_if (Some d) m = found_at d (fin.get m d)
