-- The outcomes of all that the network could have made of a run.
use Rattle.std.specs.Prelude.{◌≡◌, ◌≢◌, ◌⊎◌, ◌<◌, ℕ, ◌&&◌, Bool, false, List, [], ◌∷◌, ◌++◌, length, Option, Some, None, Ok}
use Rattle.std.specs.List.{AllByRecursion}
use Rattle.std.specs.Str.{bytes_eq}
use Rattle.payload_core.specs.Presences.{Presence}
use Rattle.node_core.specs.Operations.{Operation}
use Rattle.journal_core.specs.Journals.{Kept}
use Rattle.bench_core.specs.Clusters.{Cluster}
use Rattle.bench_core.specs.Laws.{presence_made}
use Rattle.bench_core.specs.Limits.{node_limits}
use Rattle.bench_core.specs.Machine.{Machine}
use Rattle.bench_core.specs.Runs.{runs}
use Rattle.network_core.specs.NetworkRuns.{HaveSame, IsNetworkRun}
use Rattle.explore_network.specs.Questions.{shown, Question}
use Rattle.explore_network.specs.Walks.{steps_at, Outcome}

-- the list has an element for which P holds
abbrev pub IsAny : {X : Type 0} → (X → Type 0) → List X → Type 0
IsAny P [] = ⊥
IsAny P (x ∷ xs) = P x ⊎ IsAny P xs

-- the network could have made this run of a machine's remaining steps, and it leads to this cluster
pub record CanLeadTo (m : Machine) (lost again : ℕ) (run : List Kept) (end : Cluster) : Type 0 where
  pub is_run : IsNetworkRun m.state.remaining lost again run
  pub leads : runs (node_limits m.limits) (length m.names) run ≡ Ok end

-- each run that the network could have made ends in a cluster that shows what an outcome shows
abbrev pub MissesNothing : Machine → Question → ℕ → ℕ → List Outcome → Type 0
MissesNothing m q lost again os = (run : List Kept) (end : Cluster) → CanLeadTo m lost again run end →
    IsAny (λ (o : Outcome). shown q o.cluster ≡ shown q end) os

-- each outcome has the places of the steps of a run that the network could have made, and the cluster to which that run
-- leads
abbrev pub InventsNothing : Machine → ℕ → ℕ → List Outcome → Type 0
InventsNothing m lost again os = AllByRecursion (λ (o : Outcome). CanLeadTo m lost again (steps_at m.state.remaining o.run) o.cluster) os

-- no two outcomes show the same
abbrev pub AreDistinct : Question → List Outcome → Type 0
AreDistinct q [] = Unit {0}
AreDistinct q (o ∷ os) = AllByRecursion (λ (x : Outcome). shown q o.cluster ≢ shown q x.cluster) os × AreDistinct q os

-- there is a first outcome, and its run is the recorded run
abbrev pub BeginsAsRecorded : Machine → List Outcome → Type 0
BeginsAsRecorded m [] = ⊥
BeginsAsRecorded m (o ∷ os) = steps_at m.state.remaining o.run ≡ m.state.remaining

-- whether there is a presence, and it is of this topic and key
abbrev pub is_asked_of : List ℕ → List ℕ → Option Presence → Bool
is_asked_of topic key None = false
is_asked_of topic key (Some p) = bytes_eq p.topic topic && bytes_eq p.key key

-- whether a step makes a presence of this topic and key
abbrev pub is_asked : List ℕ → List ℕ → Operation → Bool
is_asked topic key s = is_asked_of topic key (presence_made s)

-- `run` is a beginning of a run of the network, and each step of this beginning is accepted
pub record CanBegin (m : Machine) (lost again : ℕ) (run : List Kept) : Type 0 where
  pub rest : List Kept
  pub goes_on : IsNetworkRun m.state.remaining lost again (run ++ rest)
  pub accepted : (c : Cluster) × (runs (node_limits m.limits) (length m.names) run ≡ Ok c)

-- two beginnings are of one state if the same steps came in both, each as often, and they lead to the same cluster
pub record AreOfOneState (m : Machine) (run other : List Kept) : Type 0 where
  pub steps : HaveSame run other
  pub cluster : runs (node_limits m.limits) (length m.names) run ≡ runs (node_limits m.limits) (length m.names) other

-- each list has the places of the steps of a beginning, and no two of these beginnings are of one state
abbrev pub AreOfDifferentStates : Machine → List (List ℕ) → Type 0
AreOfDifferentStates m [] = Unit {0}
AreOfDifferentStates m (x ∷ xs) =
    AllByRecursion (λ y. AreOfOneState m (steps_at m.state.remaining x) (steps_at m.state.remaining y) → ⊥) xs × AreOfDifferentStates m xs

-- there are more than `most` states, and at least `found` outcomes
pub record AreTooMany (m : Machine) (q : Question) (lost again most found : ℕ) : Type 0 where
  pub states : List (List ℕ)
  pub more : most < length states
  pub begin : AllByRecursion (λ x. CanBegin m lost again (steps_at m.state.remaining x)) states
  pub differ : AreOfDifferentStates m states
  pub outcomes : List Outcome
  pub count : length outcomes ≡ found
  pub invents_nothing : InventsNothing m lost again outcomes
  pub distinct : AreDistinct q outcomes
