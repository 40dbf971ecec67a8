-- The laws of orders: what each node did, in its order, decides how a run ends.
use Rattle.std.specs.Prelude.{◌≡◌, ℕ, List, [], Some, Ok}
use Rattle.replica_core.specs.declared.node_limits.NodeLimits.{NodeLimits}
use Rattle.journal_core.specs.Journals.{Kept}
use Rattle.bench_core.specs.Clusters.{Cluster}
use Rattle.bench_core.specs.Runs.{runs}
use Rattle.order_core.specs.declared.mark.Mark.{Mark}
use Rattle.order_core.specs.Orders.{SameOwn, AreBehind, IsOrderOf, order_of}
use Rattle.order_core.specs.Marks.{AreMarks, AreMarksOf, order_of_marks}

-- in a run, each delivery and each answer comes after the send of its message
abbrev pub BehindLaw : Type 0
BehindLaw = (l : NodeLimits) (count : ℕ) (ks : List Kept) (c : Cluster) → runs l count ks ≡ Ok c → AreBehind [] ks

-- if one order of what the nodes did runs, each other runs, too, and to the same cluster
abbrev pub OrderRunsLaw : Type 0
OrderRunsLaw = (l : NodeLimits) (count : ℕ) (ks js : List Kept) (c : Cluster) → IsOrderOf ks js → runs l count ks ≡ Ok c → runs l count js ≡ Ok c

-- runs in which each node did the same, in its order, end in the same cluster
abbrev pub SameOwnLaw : Type 0
SameOwnLaw = (l : NodeLimits) (count : ℕ) (ks js : List Kept) (c d : Cluster) → SameOwn ks js → runs l count ks ≡ Ok c → runs l count js ≡ Ok d → c ≡ d

-- what `order_of` gives is an order, and it gives one if there is any
pub record OrderOfLaw : Type 0 where
  pub is_one : (ks js : List Kept) → order_of ks ≡ Some js → IsOrderOf ks js
  pub finds : (ks js : List Kept) → IsOrderOf ks js → (found : List Kept) × (order_of ks ≡ Some found)

-- if there is a run in which each node does the same as in these steps, `order_of` finds an order of them, and the run
-- of that order ends in the same cluster
abbrev pub FoundRunLaw : Type 0
FoundRunLaw = (l : NodeLimits) (count : ℕ) (ks js : List Kept) (c : Cluster) → SameOwn ks js → runs l count js ≡ Ok c →
    (found : List Kept) × (order_of ks ≡ Some found) × (SameOwn ks found) × (runs l count found ≡ Ok c)

-- the order of marks is that of the steps that they stand for
abbrev pub MarksLaw : Type 0
MarksLaw = (all ks : List Kept) (ms : List Mark) → AreMarks all ms ks → AreMarksOf all (order_of_marks ms) (order_of ks)
