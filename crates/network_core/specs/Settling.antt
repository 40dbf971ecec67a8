-- A beginning of a run is *settled* if each run of the network that begins so ends in an outcome that was found.
use Rattle.std.specs.Prelude.{◌≡◌, ◌⊎◌, ℕ, ◌+◌, ◌≤◌, ◌<◌, length, Bool, true, false, List, [], ◌∷◌, ◌++◌, Ok}
use Rattle.std.specs.List.{AllByRecursion}
use Rattle.replica_core.specs.declared.node_limits.NodeLimits.{NodeLimits}
use Rattle.node_core.specs.Operations.{Deliver}
use Rattle.journal_core.specs.Journals.{Kept}
use Rattle.bench_core.specs.Clusters.{Cluster, step}
use Rattle.bench_core.specs.Laws.{delivery}
use Rattle.bench_core.specs.Runs.{runs}
use Rattle.network_core.specs.Alike.{ClusterAlike}
use Rattle.network_core.specs.Cones.{Cone, IsCone, IsIdle, LeaveSame, cares}
use Rattle.network_core.specs.EasySteps.{GoesOn, IsEasy}
use Rattle.network_core.specs.Keys.{StandAlike}
use Rattle.network_core.specs.NetworkRuns.{IsNetworkRun, how_many, is_delivery, is_of_kind, ordered}
use Rattle.network_core.specs.Room.{made}

-- what a walk over runs of the network is about: the limits, the number of nodes, the recorded run, how many deliveries
-- may be lost and come again, which dots matter, and the clusters whose outcomes were found
pub record Walk : Type 0 where
  pub limits : NodeLimits
  pub count : ℕ
  pub recorded : List Kept
  pub lost : ℕ
  pub again : ℕ
  pub cone : Cone
  pub told : Cluster → Bool

-- a run of the network leads to this cluster
pub record IsEnd (g : Walk) (c : Cluster) : Type 0 where
  pub run : List Kept
  pub is_run : IsNetworkRun g.recorded g.lost g.again run
  pub ends : runs g.limits g.count run ≡ Ok c

-- the recorded run makes no more entries than a node may hold; the cone is closed; and of two ends that are alike in
-- what matters, either both count as found or neither
pub record IsWalk (g : Walk) : Type 0 where
  pub room : made g.recorded ≤ g.limits.entries
  pub cone : IsCone g.recorded g.cone
  pub told : (c d : Cluster) → IsEnd g c → IsEnd g d → ClusterAlike (cares g.cone g.recorded) c d → g.told d ≡ true → g.told c ≡ true

-- each cluster to which a run of the network that begins with w leads counts as found
abbrev pub IsSettled : Walk → List Kept → Type 0
IsSettled g w = (c : Cluster) → GoesOn g.limits g.count g.recorded g.lost g.again w c → g.told c ≡ true

-- the steps w are accepted, and lead to cluster c
abbrev pub Ran : Walk → List Kept → Cluster → Type 0
Ran g w c = runs g.limits g.count w ≡ Ok c

-- k is the next step of its node after w, deliveries apart
abbrev pub IsNext : Walk → List Kept → Kept → Type 0
IsNext g w k = (later : List Kept) × (ordered g.recorded k.node ≡ ordered w k.node ++ k ∷ later)

-- nothing more is delivered at node n in any run of the network that begins with w
abbrev pub IsQuiet : Walk → List Kept → ℕ → Type 0
IsQuiet g w n = (rest : List Kept) → IsNetworkRun g.recorded g.lost g.again (w ++ rest) →
    AllByRecursion (λ (x : Kept). x.node ≡ n → is_delivery x.step ≡ false) rest

-- when a beginning w is settled: each field is a case
pub record SettleLaw : Type 0 where
  -- a node's next step k is easy, and w with k is settled
  pub easy : (g : Walk) (w : List Kept) (k : Kept) → IsWalk g → IsNext g w k → IsEasy g.limits g.count w k.node k.step →
      IsSettled g (w ++ k ∷ []) → IsSettled g w
  -- nothing more is delivered at a node, its next step k is accepted, and w with k is settled
  pub alone : (g : Walk) (w : List Kept) (k : Kept) (c d : Cluster) → IsWalk g → IsNext g w k → IsQuiet g w k.node → Ran g w c → step c k.node k.step ≡ Ok d →
      IsSettled g (w ++ k ∷ []) → IsSettled g w
  -- a delivery brings nothing that matters, is accepted, and came less often than it was recorded, and w with it is
  -- settled
  pub idle : (g : Walk) (w : List Kept) (i node sender number : ℕ) (c d : Cluster) → IsWalk g → Ran g w c → IsIdle (cares g.cone w) c node sender number →
      step c node (Deliver sender number) ≡ Ok d → how_many (is_of_kind node sender number) w < how_many (is_of_kind node sender number) g.recorded →
      IsSettled g (w ++ delivery i node sender number ∷ []) → IsSettled g w
  -- another beginning v is settled, the same is left to do after v as after w, and the dots that matter stand alike
  -- after both
  pub same : (g : Walk) (w v : List Kept) (c d : Cluster) → IsWalk g → Ran g w c → Ran g v d → LeaveSame w v →
      StandAlike (cares g.cone w) g.limits w c d → IsSettled g v → IsSettled g w
  -- w with an accepted delivery, as the step with number j, is settled if w with the same delivery, as the step with
  -- number i, is settled
  pub renumbered : (g : Walk) (w : List Kept) (i j node sender number : ℕ) (c d : Cluster) → IsWalk g → Ran g w c → step c node (Deliver sender number) ≡ Ok d →
      IsSettled g (w ++ delivery i node sender number ∷ []) → IsSettled g (w ++ delivery j node sender number ∷ [])
  -- w with each accepted step that can come next is settled; and if w is a whole run, the cluster to which w leads
  -- counts as found
  pub all : (g : Walk) (w : List Kept) (c : Cluster) → Ran g w c → (IsNetworkRun g.recorded g.lost g.again w → g.told c ≡ true) →
      ((k : Kept) (d : Cluster) (rest : List Kept) → IsNetworkRun g.recorded g.lost g.again (w ++ k ∷ rest) → step c k.node k.step ≡ Ok d →
      IsSettled g (w ++ k ∷ [])) → IsSettled g w

-- a run of the network has at most as many steps as the recorded run, and one more for each delivery that may come
-- again
abbrev pub LengthLaw : Type 0
LengthLaw = (j r : List Kept) (lost again : ℕ) → IsNetworkRun j lost again r → length r ≤ length j + again

-- no delivery of this message at this node is left after w: at least as many came as were recorded, and either none may
-- come a second time or none was recorded
pub record IsSpent (g : Walk) (w : List Kept) (n sender number : ℕ) : Type 0 where
  pub came : how_many (is_of_kind n sender number) g.recorded ≤ how_many (is_of_kind n sender number) w
  pub last : (g.again ≡ 0) ⊎ (how_many (is_of_kind n sender number) g.recorded ≡ 0)

-- if no delivery of any message at the node is left, nothing more is delivered there
abbrev pub QuietLaw : Type 0
QuietLaw = (g : Walk) (w : List Kept) (n : ℕ) → ((sender number : ℕ) → IsSpent g w n sender number) → IsQuiet g w n

-- the delivery was recorded, and came in w less than twice as often as it was recorded; less often than it was
-- recorded, if nothing may come a second time
pub record MayCome (g : Walk) (w : List Kept) (n sender number : ℕ) : Type 0 where
  pub recorded : 0 < how_many (is_of_kind n sender number) g.recorded
  pub twice : how_many (is_of_kind n sender number) w < how_many (is_of_kind n sender number) g.recorded + how_many (is_of_kind n sender number) g.recorded
  pub once : g.again ≡ 0 → how_many (is_of_kind n sender number) w < how_many (is_of_kind n sender number) g.recorded

-- a delivery that comes next in a run of the network keeps to `MayCome`
abbrev pub NextDeliveryLaw : Type 0
NextDeliveryLaw =
    (g : Walk) (w rest : List Kept) (i n sender number : ℕ) →
    IsNetworkRun g.recorded g.lost g.again (w ++ delivery i n sender number ∷ rest) → MayCome g w n sender number
