-- Why a walk can take a step at once, without a look at the others that may come next.
use Rattle.std.specs.Prelude.{◌≡◌, ◌⊎◌, ℕ, List, slice_get, Some, None}
use Rattle.journal_core.specs.Journals.{Kept}
use Rattle.bench_core.specs.Clusters.{Cluster}
use Rattle.explore_network.specs.Plans.{Plan}
use Rattle.network_rules.specs.declared.turn.Rank.{Rank}
use Rattle.network_rules.specs.Easy.{IsEasyAt, IsIdleAt}
use Rattle.network_rules.specs.Turns.{delivery_of, AreSpent}

-- the walk misses no outcome if it goes on with this step alone: for one of two reasons
pub data GoesFirst (p : Plan) (counts : List ℕ) (c : Cluster) (k : Kept) (x : Rank) : Type 0 where
  -- the step is no delivery; and it is easy, or nothing more is delivered at its node
  IsOwnStep : delivery_of k.step ≡ None → IsEasyAt c k.node k.step ⊎ AreSpent p.turns counts p.again k.node → GoesFirst p counts c k x
  -- the step is a delivery that brings nothing which matters, and came less often than it was recorded
  IsIdleStep : (m : ℕ × ℕ) → delivery_of k.step ≡ Some m → IsIdleAt c p.tables p.turns counts k.node x.turn m.0 m.1 → GoesFirst p counts c k x

-- the walk misses no outcome if it goes on with the step at this place alone, for one of the reasons of `GoesFirst`
pub record CanGoFirst (p : Plan) (counts : List ℕ) (c : Cluster) (place : ℕ) : Type 0 where
  pub step : Kept
  pub rank : Rank
  pub at : slice_get p.steps place ≡ Some step
  pub at_rank : slice_get p.ranks place ≡ Some rank
  pub goes : GoesFirst p counts c step rank
