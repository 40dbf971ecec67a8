-- The rows that the last call of a replica took from its online list, and those that the call gave to the list, told by what the call
-- moved; in any order.
use Rattle.std.specs.Prelude.{ℕ, ◌==◌, Bool, List, [], ◌∷◌, ◌++◌, map, filter, Option, None, Some}
use Rattle.std.specs.FinMap as fin
use Rattle.dots_core.specs.declared.dot.Dot.{Dot}
use Rattle.payload_core.specs.Presences.{Presence, Entries}
use Rattle.payload_core.specs.EntryLists.{pairs}
use Rattle.store_core.specs.EntryMoves.{found_at}
use Rattle.replica_core.specs.Changes.{Change}
use Rattle.replica_core.specs.Moves.{hidden_by, joined_by, left_by, shown_by}
use Rattle.replica_core.specs.Replicas.{Replica}
use Rattle.diff_core.specs.Rows.{Row, row_of}
use Rattle.diff_core.specs.Online.{is_shown}

-- the rows of the entries that are shown
abbrev pub rows_shown : Replica → List (Dot × Presence) → List Row
rows_shown r es = map row_of (filter (is_shown r) es)

-- the entries at these dots
abbrev pub found_each : List Dot → Entries → List (Dot × Presence)
found_each [] es = []
found_each (d ∷ ds) es = found_at d (fin.get es d) ++ found_each ds es

-- whether an entry is of the name
abbrev pub is_of_name : ℕ → Dot × Presence → Bool
is_of_name name e = e.0.name == name

-- the rows of a name's entries
abbrev pub rows_of_name : ℕ → Replica → List Row
rows_of_name name r = map row_of (filter (is_of_name name) (fin.entries r.store.entries))

-- the rows of a name's entries, if there is a name; else these
abbrev pub rows_or : Option ℕ → Replica → List Row → List Row
rows_or None r rows = rows
rows_or (Some name) r rows = rows_of_name name r

-- the rows that a call took from the online list: those of the name that it put down; or if it put none down, those that are shown of the
-- entries that left. The replica is the one after the call
abbrev pub taken_rows : Change → Replica → List Row
taken_rows change r = rows_or (hidden_by change) r (rows_shown r (pairs (left_by change)))

-- the rows that a call gave to the online list: those of the name that it put up; or if it put none up, those that are shown of the
-- entries that joined. The replica is the one after the call
abbrev pub given_rows : Change → Replica → List Row
given_rows change r = rows_or (shown_by change) r (rows_shown r (found_each (joined_by change r) r.store.entries))
