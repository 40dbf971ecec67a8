-- The differences are exactly the changes that make a difference.
use Rattle.std.specs.Prelude.{◌≡◌, ◌≢◌, ◌↔◌, ℕ, ◌<◌, true, List, Ok, length, Some}
use Rattle.std.specs.List.{Contains}
use Rattle.journal_core.specs.Journals.{Kept}
use Rattle.diff_core.specs.Rows.{Row}
use Rattle.bench_core.specs.Clusters.{Cluster}
use Rattle.bench_core.specs.Machine.{Machine}
use Rattle.order_core.specs.Orders.{SameOwn, order_of}
use Rattle.change_core.specs.declared.change.Change.{Change}
use Rattle.change_core.specs.Changes.{changed, is_change}
use Rattle.change_core.specs.Questions.{Question, rows_at}
use Rattle.change_core.specs.Ends.{rows_before, run_of}
use Rattle.whatif_core.specs.Differences.{Difference, nearest, nearest_change}

-- the recorded run has this change; and some run in which each node does what it did, in its order, but for the change,
-- leads to this cluster
pub record LeadsTo (m : Machine) (c : Change) (end : Cluster) : Type 0 where
  pub is_one : is_change m.state.remaining c ≡ true
  pub run : List Kept
  pub same : SameOwn (changed m.state.remaining c) run
  pub accepted : run_of m run ≡ Ok end

-- with this change the rows are these, and they aren't those at the end of the recorded run
pub record MakesDifference (m : Machine) (q : Question) (c : Change) (rows : List Row) : Type 0 where
  pub end : Cluster
  pub possible : LeadsTo m c end
  pub shown : rows ≡ rows_at q end
  pub other : rows ≢ rows_before m q

abbrev pub change_of : Difference → ℕ → Change
change_of d j = record { kind = d.kind; place = d.place; beside = j }

-- a difference has the change, with these rows
pub record IsTold (told : List Difference) (c : Change) (rows : List Row) : Type 0 where
  pub by : Difference
  pub among : Contains told by
  pub kind : by.kind ≡ c.kind
  pub place : by.place ≡ c.place
  pub beside : Contains by.besides c.beside
  pub shown : by.rows ≡ rows

-- the list has each change that makes a difference, and no other change
pub record AreExactly (m : Machine) (q : Question) (told : List Difference) : Type 0 where
  pub invents_nothing : (d : Difference) (j : ℕ) → Contains told d → Contains d.besides j → MakesDifference m q (change_of d j) d.rows
  pub misses_nothing : (c : Change) (rows : List Row) → MakesDifference m q c rows → IsTold told c rows
  pub has_nearest : (d : Difference) → Contains told d → Contains d.besides (nearest d)

-- the change stands within the run, and with it what the nodes did has an order
pub record HasOrder (ks : List Kept) (c : Change) : Type 0 where
  pub place : c.place < length ks
  pub beside : c.beside < length ks
  pub run : List Kept
  pub ordered : order_of (changed ks c) ≡ Some run

-- with the nearest change of each difference that is told, what the nodes did has an order
abbrev pub ToldRunsLaw : Type 0
ToldRunsLaw = (m : Machine) (q : Question) (told : List Difference) → AreExactly m q told → (d : Difference) → Contains told d →
    HasOrder m.state.remaining (nearest_change d)

-- the list has each change that the run has, and no other change
abbrev pub AreAllChanges : List Kept → List Change → Type 0
AreAllChanges ks cs = (c : Change) → (is_change ks c ≡ true) ↔ Contains cs c
