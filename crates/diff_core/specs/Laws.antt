-- Laws of online lists and their differences.
use Rattle.std.specs.Prelude.{◌≡◌, ◌↔◌, List, []}
use Rattle.replica_core.specs.Replicas.{Replica}
use Rattle.replica_core.specs.Changes.{Change, ChangeLeadsBack}
use Rattle.diff_core.specs.Rows.{Row}
use Rattle.diff_core.specs.Online.{IsOnlineList, AreInOrder}
use Rattle.diff_core.specs.Diffs.{alone}
use Rattle.diff_core.specs.Sorting.{in_order, online_of}
use Rattle.diff_core.specs.ChangedRows.{given_rows, taken_rows}

-- two replicas with the same entries and statuses have the same online list
abbrev pub OneListLaw : Type 0
OneListLaw = (r s : Replica) (xs ys : List Row) → r.store.entries ≡ s.store.entries → r.view ≡ s.view → IsOnlineList r xs → IsOnlineList s ys → xs ≡ ys

-- no row of a list is missing in the list itself; and if a list is in order, so are its rows that are not in another
pub record DiffLaw : Type 0 where
  pub itself : (rows : List Row) → alone rows rows ≡ []
  pub in_order : (rows others : List Row) → AreInOrder rows → AreInOrder (alone rows others)

-- a replica has one online list, which `online_of` gives
abbrev pub OnlineLaw : Type 0
OnlineLaw = (r : Replica) (rows : List Row) → IsOnlineList r rows ↔ (rows ≡ online_of r)

-- the rows that a call took and gave are those in which the online lists before and after it differ
pub record Tells (change : Change) (b a : Replica) : Type 0 where
  pub left : in_order (taken_rows change b) ≡ alone (online_of a) (online_of b)
  pub joined : in_order (given_rows change b) ≡ alone (online_of b) (online_of a)

-- a change that leads back from one replica to another tells how the online list of the first differs from the other's
abbrev pub ChangedLaw : Type 0
ChangedLaw = (change : Change) (b a : Replica) → ChangeLeadsBack change b a → Tells change b a
