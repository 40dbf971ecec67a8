-- Where a walk stands, which outcomes it has found, and what that settles.
use Rattle.std.specs.Prelude.{◌≡◌, ℕ, ◌+◌, ◌-◌, ◌<◌, ◌≤◌, Bool, true, false, List, [], ◌∷◌, ◌++◌, length, slice_get, Option, Some, None, Ok, refl}
use Rattle.std.specs.Coded.{Coded, code_by, coded×, coded_ℕ, coded_list}
use Rattle.std.specs.List.{AllByRecursion, list_any}
use Rattle.node_core.specs.Nodes.{node_code}
use Rattle.journal_core.specs.Journals.{Kept}
use Rattle.bench_core.specs.Clusters.{Cluster, step}
use Rattle.bench_core.specs.Runs.{runs}
use Rattle.network_core.specs.NetworkRuns.{IsNetworkRun, ordered}
use Rattle.network_core.specs.Settling.{IsSettled, IsWalk}
use Rattle.explore_network.specs.declared.explore_fault.Stop.{Stop}
use Rattle.explore_network.specs.declared.explore_fault.Stop.TheVariants.{TooManyStates, OutOfMemory}
use Rattle.explore_network.specs.Keys.{AreDifferent}
use Rattle.explore_network.specs.Plans.{walk_of, IsPlan, Plan}
use Rattle.network_rules.specs.Queries.{key_of}
use Rattle.explore_network.specs.Questions.{shown, Question}
use Rattle.explore_network.specs.SameShown.{same_shown}
use Rattle.network_rules.specs.declared.turn.Turn.{Turn}
use Rattle.explore_network.specs.Turns.{count_of, counts_of}
use Rattle.network_rules.specs.Turns.{extra, is_next}

-- the places of a run's steps among the recorded ones, and the cluster to which it leads
pub record Outcome : Type 0 where
  pub run : List ℕ
  pub cluster : Cluster

abbrev pub outcome_code : Coded Outcome
outcome_code =
    code_by (List ℕ × Cluster) (coded× (coded_list coded_ℕ) (coded_list node_code)) (λ o. (o.run, o.cluster))
    (λ p. record { run = p.0; cluster = p.1 }) (λ _. refl)

abbrev pub with_step : Option Kept → List Kept → List Kept
with_step None ks = ks
with_step (Some k) ks = k ∷ ks

-- the steps at these places
abbrev pub steps_at : List Kept → List ℕ → List Kept
steps_at j [] = []
steps_at j (p ∷ ps) = with_step (slice_get j p) (steps_at j ps)

-- whether an outcome shows the same as the cluster
abbrev pub told_by : Question → List Outcome → Cluster → Bool
told_by q os c = list_any (λ o. same_shown (shown q o.cluster) (shown q c)) os

-- no more deliveries came again than may, and none came more than twice as often as it was recorded
pub record IsWithin (p : Plan) (w : List Kept) : Type 0 where
  pub again : extra p.turns (counts_of p.turns w) 0 ≤ p.again
  pub twice : AllByRecursion (λ (t : Turn). count_of t w - t.recorded ≤ t.recorded) p.turns

-- the steps w lead to this cluster, and these are the counts of the turns in w; w has recorded steps alone, of each
-- node's own steps the first ones, in their order; and no delivery came too often
pub record IsAt (p : Plan) (w : List Kept) (counts : List ℕ) (c : Cluster) : Type 0 where
  pub ran : runs p.limits p.count w ≡ Ok c
  pub counted : counts ≡ counts_of p.turns w
  pub along : (path : List ℕ) × (w ≡ steps_at p.steps path)
  pub own : (n : ℕ) → (later : List Kept) × (ordered p.steps n ≡ ordered w n ++ later)
  pub within : IsWithin p w

-- each run of the network that begins like this leads to what an outcome shows
abbrev pub IsTold : Plan → Question → List Outcome → List Kept → Type 0
IsTold p q os w = IsSettled (walk_of p (told_by q os)) w

-- the walk can take step k at once: if k is accepted after w, and w with k is settled, then w is settled, whatever
-- outcomes were found
abbrev pub CanBeFirst : Plan → List Kept → Cluster → Kept → Type 0
CanBeFirst p w c k =
    (told : Cluster → Bool) (d : Cluster) → IsWalk (walk_of p told) → step c k.node k.step ≡ Ok d →
    IsSettled (walk_of p told) (w ++ k ∷ []) → IsSettled (walk_of p told) w

-- whether the step at a place is the next of its turn and may come
abbrev pub next_in : Plan → List ℕ → ℕ → Bool
next_in p counts place = is_next p.turns p.ranks counts p.again place

-- the step at this place is the next of its turn, and the walk can take it at once
pub record IsFirst (p : Plan) (counts : List ℕ) (c : Cluster) (place : ℕ) : Type 0 where
  pub next : next_in p counts place ≡ true
  pub first : (w : List Kept) (k : Kept) → IsAt p w counts c → slice_get p.steps place ≡ Some k → CanBeFirst p w c k

-- the key is that of a beginning of runs of the network from which all outcomes were found
pub record IsKeyOf (p : Plan) (q : Question) (os : List Outcome) (key : List ℕ) : Type 0 where
  pub first : List Kept
  pub counts : List ℕ
  pub cluster : Cluster
  pub at : IsAt p first counts cluster
  pub is : key ≡ key_of p.tables p.count p.steps p.ranks counts cluster
  pub told : IsTold p q os first

-- a run of the network leads to the outcome
pub record IsOutcome (p : Plan) (o : Outcome) : Type 0 where
  pub is_run : IsNetworkRun p.steps p.lost p.again (steps_at p.steps o.run)
  pub leads : runs p.limits p.count (steps_at p.steps o.run) ≡ Ok o.cluster

-- no two outcomes show the same
abbrev pub AreApart : Question → List Outcome → Type 0
AreApart q [] = Unit {0}
AreApart q (o ∷ os) = AllByRecursion (λ (x : Outcome). same_shown (shown q o.cluster) (shown q x.cluster) ≡ false) os × AreApart q os

-- what a walk has at each point: keys of beginnings from which it found all outcomes, all different and no more than
-- may be kept; and outcomes of runs of the network, no two of which show the same
pub record Keeps (p : Plan) (q : Question) (known : List (List ℕ)) (os : List Outcome) : Type 0 where
  pub keys : AllByRecursion (IsKeyOf p q os) known
  pub differ : AreDifferent known
  pub outcomes : AllByRecursion (IsOutcome p) os
  pub apart : AreApart q os
  pub few : length known ≤ p.most

-- more states came up than may be kept, and `n` outcomes had been found
pub record IsTooMany (p : Plan) (q : Question) (n : ℕ) : Type 0 where
  pub plan : IsPlan p q
  pub known : List (List ℕ)
  pub found : List Outcome
  pub keys : AllByRecursion (IsKeyOf p q found) known
  pub differ : AreDifferent known
  pub more : p.most < length known
  pub outcomes : AllByRecursion (IsOutcome p) found
  pub apart : AreApart q found
  pub count : length found ≡ n

-- if a walk stops for too many states, there are too many; of a refusal of memory nothing is said
abbrev pub HasReason : Plan → Question → Stop → Type 0
HasReason p q (TooManyStates n) = IsTooMany p q n
HasReason p q OutOfMemory = Unit {0}

-- the outcomes `more` are the outcomes `os`, and perhaps others after these
abbrev pub AreMore : List Outcome → List Outcome → Type 0
AreMore os more = (rest : List Outcome) × (more ≡ os ++ rest)

-- what came of going on with the step at a place: if the step is accepted, all outcomes of runs that begin with w and
-- then this step were found; and `did` is true only if the step was accepted
pub record GoesThrough (p : Plan) (q : Question) (w : List Kept) (c : Cluster) (place : ℕ) (did : Bool) (os : List Outcome) : Type 0 where
  pub told : (k : Kept) (d : Cluster) → slice_get p.steps place ≡ Some k → step c k.node k.step ≡ Ok d → IsTold p q os (w ++ k ∷ [])
  pub taken : did ≡ true → (k : Kept) × ((d : Cluster) × ((slice_get p.steps place ≡ Some k) × (step c k.node k.step ≡ Ok d)))

-- what each call of the walk needs: a plan, what the walk keeps, where it stands, and how many steps may still come
pub record IsReady (p : Plan) (q : Question) (path : List ℕ) (c : Cluster) (known : List (List ℕ)) (os : List Outcome)
    (counts : List ℕ) (rest : ℕ) : Type 0 where
  pub plan : IsPlan p q
  pub keeps : Keeps p q known os
  pub at : IsAt p (steps_at p.steps path) counts c
  pub left : length (steps_at p.steps path) + rest ≡ length p.steps + p.again

-- the step k at this place was just taken after the path, and was the next of its turn
pub record IsBehind (p : Plan) (path : List ℕ) (place : ℕ) (k : Kept) (counts : List ℕ) (c : Cluster) : Type 0 where
  pub before : Cluster
  pub at : IsAt p (steps_at p.steps path) counts before
  pub here : slice_get p.steps place ≡ Some k
  pub next : next_in p counts place ≡ true
  pub took : step before k.node k.step ≡ Ok c

-- what each call of a walk leaves: the outcomes so far and perhaps more, and what each walk keeps
pub record Went (p : Plan) (q : Question) (os : List Outcome) (known : List (List ℕ)) (new : List Outcome) : Type 0 where
  pub more : AreMore os new
  pub keeps : Keeps p q known new

-- if the step at this place may come next and is accepted, all outcomes of runs that begin with the path and this step
-- were found
abbrev pub GoesThroughAt : Plan → Question → List ℕ → Cluster → List ℕ → List Outcome → ℕ → Type 0
GoesThroughAt p q path c counts os place =
    (k : Kept) (d : Cluster) → next_in p counts place ≡ true → slice_get p.steps place ≡ Some k → step c k.node k.step ≡ Ok d →
    IsTold p q os (steps_at p.steps path ++ k ∷ [])

-- if the step at a place may come next and is accepted, all outcomes of runs that begin with the path and this step
-- were found: so for each place
abbrev pub AllGoThrough : Plan → Question → List ℕ → Cluster → List ℕ → List Outcome → Type 0
AllGoThrough p q path c counts os = (place : ℕ) → GoesThroughAt p q path c counts os place
