-- A run that is played on a cluster of its own, and from which steps are taken back, for the code's own use alone.
use Rattle.std.specs.Prelude.{◌≡◌, ℕ, Bool, if◌then◌else◌, List, [], ◌∷◌, map, slice_get, Some, None, Ok, refl}
use Rattle.std.specs.Coded.{Coded, code_by, coded×, coded_ℕ, coded_list}
use Rattle.node_core.specs.Inverses.{Inverse, inverse_code}
use Rattle.node_core.specs.Nodes.{node_code}
use Rattle.journal_core.specs.Journals.{Kept}
use Rattle.bench_core.specs.Benches.{LeadsClusterBack}
use Rattle.bench_core.specs.Clusters.{Cluster}
use Rattle.bench_core.specs.Runs.{then_runs}
use Rattle.change_core.specs.Ends.{reached}
use Rattle.change_core.specs.Marked.{with_step}

-- a step that was taken: its place, its node, and what leads back from it
pub record Taken : Type 0 where
  pub place : ℕ
  pub node : ℕ
  pub inverse : Inverse

-- the cluster to which some steps led, and these steps
pub record Walk : Type 0 where
  pub cluster : Cluster
  pub taken : List Taken

abbrev pub taken_code : Coded Taken
taken_code =
    code_by (ℕ × (ℕ × Inverse)) (coded× coded_ℕ (coded× coded_ℕ inverse_code)) (λ t. (t.place, (t.node, t.inverse)))
    (λ p. record { place = p.0; node = p.1.0; inverse = p.1.1 }) (λ _. refl)

abbrev pub walk_code : Coded Walk
walk_code =
    code_by (Cluster × List Taken) (coded× (coded_list node_code) (coded_list taken_code)) (λ w. (w.cluster, w.taken))
    (λ p. record { cluster = p.0; taken = p.1 }) (λ _. refl)

-- the steps at these places
abbrev pub steps_in : List Kept → List ℕ → List Kept
steps_in ks [] = []
steps_in ks (p ∷ ps) = with_step (slice_get ks p) (steps_in ks ps)

abbrev pub places_of : List Taken → List ℕ
places_of ts = map (λ t. t.place) ts

-- a step led from cluster c to cluster d, and its inverse leads back
pub record Leads (ks : List Kept) (c : Cluster) (t : Taken) (d : Cluster) : Type 0 where
  pub runs : then_runs (Ok c) (with_step (slice_get ks t.place) []) ≡ Ok d
  pub back : LeadsClusterBack d t.node t.inverse c

-- steps led from cluster c to cluster d, one after the other
abbrev pub Led : List Kept → Cluster → List Taken → Cluster → Type 0
Led ks c [] d = c ≡ d
Led ks c (t ∷ ts) d = (mid : Cluster) × Leads ks c t mid × Led ks mid ts d

-- the steps that were taken led to the cluster from the first one
abbrev pub IsWalk : List Kept → Cluster → Walk → Type 0
IsWalk ks first w = Led ks first w.taken w.cluster

-- the walk began at some cluster
abbrev pub IsWalkOf : List Kept → Walk → Type 0
IsWalkOf ks w = (first : Cluster) × IsWalk ks first w

-- the walk took some steps from some cluster
abbrev pub IsSomeWalk : Walk → Type 0
IsSomeWalk w = (ks : List Kept) × (first : Cluster) × IsWalk ks first w

-- over whatever steps and from whatever first cluster the old walk is a walk, the new one is a walk, too
abbrev pub StaysWalk : Walk → Walk → Type 0
StaysWalk old new = (ks : List Kept) (first : Cluster) → IsWalk ks first old → IsWalk ks first new

-- if the step at the place was taken, it leads from the old walk's cluster to the new one's, and else it is refused
-- there; and the new walk is a walk from each first cluster that the old one is a walk from
pub record Asks (ks : List Kept) (place : ℕ) (old new : Walk) (taken : Bool) : Type 0 where
  pub reached : reached (then_runs (Ok old.cluster) (with_step (slice_get ks place) [])) ≡ (if taken then Some new.cluster else None)
  pub stays : (first : Cluster) → IsWalk ks first old → IsWalk ks first new

-- from each first cluster of the old walk, the steps at these places lead to the new walk's cluster if `taken` is true,
-- and else one of them is refused; and the new walk is a walk from each of these first clusters
pub record GoesTo (ks : List Kept) (places : List ℕ) (old new : Walk) (taken : Bool) : Type 0 where
  pub reached : (first : Cluster) → IsWalk ks first old → reached (then_runs (Ok first) (steps_in ks places)) ≡ (if taken then Some new.cluster else None)
  pub stays : (first : Cluster) → IsWalk ks first old → IsWalk ks first new
