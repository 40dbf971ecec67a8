-- The rows of a topic and a key, and the dots that decide them.
use Rattle.std.specs.Prelude.{◌≡◌, ℕ, ◌&&◌, Bool, true, List, filter}
use Rattle.std.specs.List.{AllByRecursion}
use Rattle.std.specs.FinMap as fin
use Rattle.std.specs.Str.{bytes_eq}
use Rattle.dots_core.specs.declared.dot.Dot.{Dot}
use Rattle.payload_core.specs.Presences.{Presence}
use Rattle.replica_core.specs.Replicas.{Replica}
use Rattle.diff_core.specs.Rows.{Row, row_of}
use Rattle.diff_core.specs.Online.{shown}
use Rattle.diff_core.specs.Sorting.{online_of}
use Rattle.network_core.specs.Alike.{ReplicaAlike}

-- whether a row is of this topic and key
abbrev pub is_row_of : List ℕ → List ℕ → Row → Bool
is_row_of topic key row = bytes_eq row.topic topic && bytes_eq row.key key

-- the rows of the topic and the key that are shown, in the order of their dots
abbrev pub rows_of : List ℕ → List ℕ → Replica → List Row
rows_of topic key r = filter (is_row_of topic key) (shown r)

-- the rows of the topic and the key in the online list
abbrev pub online_rows_of : List ℕ → List ℕ → Replica → List Row
online_rows_of topic key r = filter (is_row_of topic key) (online_of r)

-- if two replicas show the same rows of the topic and the key in the order of dots, so do their online lists
abbrev pub OnlineRowsLaw : Type 0
OnlineRowsLaw = (topic key : List ℕ) (r s : Replica) → rows_of topic key r ≡ rows_of topic key s → online_rows_of topic key r ≡ online_rows_of topic key s

-- `wanted` holds of the dot of each entry that the replica has under the topic and the key
abbrev pub AreWanted : (Dot → Bool) → List ℕ → List ℕ → Replica → Type 0
AreWanted wanted topic key r =
    AllByRecursion (λ (e : Dot × Presence). is_row_of topic key (row_of e) ≡ true → wanted e.0 ≡ true) (fin.entries r.store.entries)

-- if `wanted` holds of the dots of all entries that two replicas have under the topic and the key, and the replicas are
-- alike in the wanted dots, they show the same rows of the topic and the key
abbrev pub RowsLaw : Type 0
RowsLaw =
    (wanted : Dot → Bool) (topic key : List ℕ) (r s : Replica) → ReplicaAlike wanted r s → AreWanted wanted topic key r → AreWanted wanted topic key s →
    rows_of topic key r ≡ rows_of topic key s
