-- From one call of the walk to the next.
use Rattle.std.proofs.Common.{◌≡◌, ◌⊎◌, ℕ, ◌<◌, ◌≤◌, ◌+◌, Bool, true, false, Result, Err, IfOk, OnOk, List, [], ◌∷◌, ◌++◌, length, slice_get, Some, None, Ok, sym, ap, ◌∙◌, subst, below_more}
use Rattle.journal_core.specs.Journals.{Kept}
use Rattle.bench_core.specs.declared.fault.Fault.{Fault}
use Rattle.bench_core.specs.Clusters.{Cluster, step}
use Rattle.explore_network.specs.declared.explore_fault.Stop.{Stop}
use Rattle.explore_network.specs.declared.explore_fault.Stop.TheVariants.{OutOfMemory}
use Rattle.explore_network.specs.Plans.{Plan}
use Rattle.explore_network.specs.Questions.{Question}
use Rattle.explore_network.specs.Walks.{next_in, steps_at, told_by, AllGoThrough, AreMore, GoesThrough, GoesThroughAt, HasReason, IsAt, IsBehind, IsFirst, IsReady, IsTold, Keeps, Outcome, Went}
use Rattle.network_core.specs.NetworkRuns.{IsNetworkRun}
use Rattle.explore_network.specs.Keys.{IsAmong}
use Rattle.network_rules.specs.Queries.{key_of}
use Rattle.explore_network.proofs.Going.{steps_push}
use Rattle.explore_network.proofs.SameKeys.{same_key}
use Rattle.explore_network.proofs.Telling.{all_told}
use Rattle.explore_network.proofs.ToldWalks.{is_walk}
use Rattle.explore_network.proofs.Tours.{first_told, key_among, keeps_key, knows_key, Knows, more_more, no_more, through_refused, told_by_more, told_more}

pub went_nowhere : (p : Plan) (q : Question) (known : List (List ℕ)) (os : List Outcome) → Keeps p q known os → Went p q os known os
went_nowhere p q known os keeps = record { more = no_more os; keeps = keeps }

pub went_on : (p : Plan) (q : Question) (known later : List (List ℕ)) (os mid new : List Outcome) → Went p q os known mid → Went p q mid later new → Went p q os later new
went_on p q known later os mid new a b = record { more = more_more os mid new a.more b.more; keeps = b.keeps }

-- the same place, with more that was told
pub ready_again : (p : Plan) (q : Question) (path path_new : List ℕ) (c c_new : Cluster) (known known_new : List (List ℕ)) (os os_new : List Outcome) (counts : List ℕ) (left : ℕ) →
    IsReady p q path c known os counts left → path_new ≡ path → c_new ≡ c → Went p q os known_new os_new → IsReady p q path_new c_new known_new os_new counts left
ready_again p q path path_new c c_new known known_new os os_new counts left r same_path same_cluster went = record {
  plan = r.plan;
  keeps = went.keeps;
  at = subst (λ (x : List ℕ). IsAt p (steps_at p.steps x) counts c_new) (sym same_path) (subst (λ (x : Cluster). IsAt p (steps_at p.steps path) counts x) (sym same_cluster) r.at);
  left = subst (λ (x : List ℕ). length (steps_at p.steps x) + left ≡ length p.steps + p.again) (sym same_path) r.left;
}

-- what went on at one place, after more was told
pub goes_more : (p : Plan) (q : Question) (path : List ℕ) (c : Cluster) (counts : List ℕ) (os new : List Outcome) (place : ℕ) → AreMore os new → GoesThroughAt p q path c counts os place →
    GoesThroughAt p q path c counts new place
goes_more p q path c counts os new place more goes k d next at took = told_more p q os new (steps_at p.steps path ++ k ∷ []) more (goes k d next at took)

-- one place further
pub goes_further : (p : Plan) (q : Question) (path path_now : List ℕ) (c c_now : Cluster) (counts : List ℕ) (os now new : List Outcome) (place : ℕ) → path_now ≡ path → c_now ≡ c → AreMore now new →
    ((i : ℕ) → i < place → GoesThroughAt p q path c counts now i) → GoesThroughAt p q path_now c_now counts new place → (i : ℕ) → i < place + 1 → GoesThroughAt p q path c counts new i
goes_further p q path path_now c c_now counts os now new place same_path same_cluster more so_far here =
    below_more (GoesThroughAt p q path c counts new) place (λ i lt. goes_more p q path c counts now new i more (so_far i lt))
    (subst (λ (x : Cluster). GoesThroughAt p q path x counts new place) same_cluster (subst (λ (x : List ℕ). GoesThroughAt p q x c_now counts new place) same_path here))

-- a step that was refused

pub refused_there : (p : Plan) (q : Question) (w : List Kept) (c : Cluster) (place : ℕ) (os : List Outcome) (k : Kept) (fault : Fault) → slice_get p.steps place ≡ Some k → step c k.node k.step ≡ Err fault →
    GoesThrough p q w c place false os
refused_there p q w c place os k fault at refused = through_refused p q w c place os (λ x d here took.
    (let one : Some x ≡ Some k = sym here ∙ at in
    let same : x ≡ k = cc in
    let both : Ok d ≡ Err fault = sym took ∙ (λ i. step c (same i).node (same i).step) ∙ refused in
    cc))

-- where there is no such place
pub nothing_there : (p : Plan) (q : Question) (w : List Kept) (c : Cluster) (place : ℕ) (os : List Outcome) → slice_get p.steps place ≡ None → GoesThrough p q w c place false os
nothing_there p q w c place os none = through_refused p q w c place os (λ x d here took. (let both : Some x ≡ None = sym here ∙ none in cc))

-- behind a step

pub behind : (p : Plan) (q : Question) (path : List ℕ) (place : ℕ) (k : Kept) (counts : List ℕ) (c d : Cluster) → IsAt p (steps_at p.steps path) counts c → slice_get p.steps place ≡ Some k → next_in p counts place ≡ true →
    step c k.node k.step ≡ Ok d → IsBehind p path place k counts d
behind p q path place k counts c d at here next took = record { before = c; at = at; here = here; next = next; took = took }

pub onward_told : (p : Plan) (q : Question) (os : List Outcome) (path path_new : List ℕ) (place : ℕ) (k : Kept) → slice_get p.steps place ≡ Some k → path_new ≡ path ++ place ∷ [] → IsTold p q os (steps_at p.steps path_new) →
    IsTold p q os (steps_at p.steps path ++ k ∷ [])
onward_told p q os path path_new place k here longer = subst (IsTold p q os) (ap (steps_at p.steps) longer ∙ steps_push p.steps path place k here)

-- the first step

pub first_is_told : (p : Plan) (q : Question) (path : List ℕ) (c : Cluster) (known : List (List ℕ)) (os new : List Outcome) (counts : List ℕ) (left place : ℕ) (taken : Bool) → IsReady p q path c known os counts left →
    IsFirst p counts c place → GoesThrough p q (steps_at p.steps path) c place taken new → taken ≡ true → IsTold p q new (steps_at p.steps path)
first_is_told p q path c known os new counts left place taken r first goes is =
    first_told p q (steps_at p.steps path) counts c place new (is_walk p q r.plan new) r.at first (subst (λ b. GoesThrough p q (steps_at p.steps path) c place b new) is goes)

-- what may come next, and the end

pub all_is_told : (p : Plan) (q : Question) (path path_mid : List ℕ) (c c_mid : Cluster) (known : List (List ℕ)) (os mid new : List Outcome) (counts : List ℕ) (left : ℕ) → IsReady p q path c known os counts left →
    (IsNetworkRun p.steps p.lost p.again (steps_at p.steps path) → told_by q mid c ≡ true) → AreMore mid new → path_mid ≡ path → c_mid ≡ c → AllGoThrough p q path_mid c_mid counts new → IsTold p q new (steps_at p.steps path)
all_is_told p q path path_mid c c_mid known os mid new counts left r ended more same_path same_cluster all =
    all_told p q r.plan (steps_at p.steps path) counts c r.at new (is_walk p q r.plan new) (λ run. told_by_more q mid new c more (ended run))
    (λ place. subst (λ (x : Cluster). GoesThroughAt p q path x counts new place) same_cluster (subst (λ (x : List ℕ). GoesThroughAt p q x c_mid counts new place) same_path (all place)))

-- a state that is known

pub known_is_told : (p : Plan) (q : Question) (path : List ℕ) (c : Cluster) (known : List (List ℕ)) (os : List Outcome) (counts key : List ℕ) (left : ℕ) → IsReady p q path c known os counts left →
    key ≡ key_of p.tables p.count p.steps p.ranks counts c → IsAmong key known → IsTold p q os (steps_at p.steps path)
known_is_told p q path c known os counts key left r is among =
    let k = key_among p q os key known r.keeps.keys among in
    same_key p q r.plan (steps_at p.steps path) k.first counts k.counts c k.cluster r.at k.at (sym is ∙ k.is) (told_by q os) (is_walk p q r.plan os) k.told

-- one state more is known
pub known_key : (p : Plan) (q : Question) (path : List ℕ) (c : Cluster) (known mid later : List (List ℕ)) (os new : List Outcome) (counts key : List ℕ) (left : ℕ) → IsReady p q path c known os counts left →
    key ≡ key_of p.tables p.count p.steps p.ranks counts c → Went p q os mid new → IsTold p q new (steps_at p.steps path) → (later ≡ mid) ⊎ ((later ≡ mid ++ key ∷ []) × (IsAmong key mid → ⊥)) → Knows p q new later
known_key p q path c known mid later os new counts key left r is went told put =
    knows_key p q new key mid later went.keeps (record { first = steps_at p.steps path; counts = counts; cluster = c; at = r.at; is = is; told = told }) put

pub known_more : (p : Plan) (q : Question) (mid later : List (List ℕ)) (os new : List Outcome) → Went p q os mid new → Knows p q new later → length later ≤ p.most → Went p q os later new
known_more p q mid later os new went knows few = record { more = went.more; keeps = keeps_key p q new mid later went.keeps knows few }

-- what holds of the result

pub if_ok : {X E : Type 0} (r : Result X E) (P Q : X → Type 0) → ((x : X) → P x → Q x) → IfOk r P → IfOk r Q
if_ok (Ok x) P Q f h = f x h
if_ok (Err e) P Q f h = tt

pub on_ok : {X E : Type 0} (r : Result X E) (P Q : Type 0) → (P → Q) → OnOk r P → OnOk r Q
on_ok (Ok x) P Q f h = f h
on_ok (Err e) P Q f h = tt

pub both_ok : {X E : Type 0} (r : Result X E) (P Q R : Type 0) → (P → Q → R) → OnOk r P → OnOk r Q → OnOk r R
both_ok (Ok x) P Q R f h g = f h g
both_ok (Err e) P Q R f h g = tt

-- why the walk stopped

pub no_memory : (p : Plan) (q : Question) (s : Stop) → s ≡ OutOfMemory → HasReason p q s
no_memory p q s is = subst (HasReason p q) (sym is) tt

pub err_same : {X E : Type 0} (e f : E) → ◌≡◌ {A = Result X E} (Err e) (Err f) → e ≡ f
err_same e f h = cc

pub if_both : {X E : Type 0} (r : Result X E) (P Q R : X → Type 0) → ((x : X) → P x → Q x → R x) → IfOk r P → IfOk r Q → IfOk r R
if_both (Ok x) P Q R f h g = f x h g
if_both (Err e) P Q R f h g = tt
