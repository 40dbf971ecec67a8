-- The online list (this project's own, after Phoenix.Tracker: entries of replicas that are down are not listed).
use Rattle.std.specs.Prelude.{Bool, List, map, filter}
use Rattle.std.specs.List.Sorted.{IsPermutation, IsStrictlySortedBy}
use Rattle.std.specs.FinMap as fin
use Rattle.dots_core.specs.declared.dot.Dot.{Dot}
use Rattle.payload_core.specs.Presences.{Presence}
use Rattle.replica_core.specs.Replicas.{Replica, is_online}
use Rattle.diff_core.specs.Rows.{Row, row_cmp, row_of}

-- whether the name of an entry's dot is known and up
abbrev pub is_shown : Replica → Dot × Presence → Bool
is_shown r e = is_online r e.0.name

-- the rows of the entries that are shown, in the order of their dots
abbrev pub shown : Replica → List Row
shown r = map row_of (filter (is_shown r) (fin.entries r.store.entries))

-- the rows are in order, and none stands twice
abbrev pub AreInOrder : List Row → Type 0
AreInOrder rows = IsStrictlySortedBy row_cmp rows

-- the rows of the entries whose name is up, each once, in order
pub record IsOnlineList (r : Replica) (rows : List Row) : Type 0 where
  pub rows_shown : IsPermutation (shown r) rows
  pub in_order : AreInOrder rows
