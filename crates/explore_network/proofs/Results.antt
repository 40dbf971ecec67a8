-- What was told of a plan, as what was asked for.
use Rattle.std.proofs.Common.{◌≡◌, ◌||◌, ◌&&◌, ◌==◌, inl, inr, suc, subst₂, arith, Ok, ℕ, Bool, true, false, List, [], ◌∷◌, length, refl, sym, ap, ◌∙◌, subst, true≢false}
use Rattle.std.specs.List.{AllByRecursion}
use Rattle.journal_core.specs.Journals.{Kept}
use Rattle.bench_core.specs.Clusters.{Cluster}
use Rattle.bench_core.specs.Limits.{node_limits}
use Rattle.bench_core.specs.Machine.{Machine}
use Rattle.bench_core.specs.Runs.{runs}
use Rattle.network_core.specs.NetworkRuns.{HaveSame, IsNetworkRun}
use Rattle.network_rules.specs.declared.turn.Turn.{Turn}
use Rattle.explore_network.specs.Keys.{AreDifferent, IsAmong}
use Rattle.network_rules.specs.Queries.{key_of}
use Rattle.explore_network.specs.Turns.{count_of, counts_of}
use Rattle.network_rules.specs.Turns.{delivery_of, same_message}
use Rattle.explore_network.specs.Explorations.{AreDistinct, AreOfDifferentStates, AreOfOneState, AreTooMany, BeginsAsRecorded, CanBegin, InventsNothing, IsAny, MissesNothing}
use Rattle.explore_network.specs.Outcomes.{AllIsTold}
use Rattle.explore_network.specs.Plans.{IsPlan, Plan}
use Rattle.explore_network.specs.Questions.{shown, Question}
use Rattle.explore_network.specs.SameShown.{same_shown}
use Rattle.explore_network.specs.Walks.{steps_at, told_by, AreApart, IsKeyOf, IsOutcome, IsTooMany, Outcome}
use Rattle.explore_network.proofs.GoingOn.{goes_on, rest_of}
use Rattle.explore_network.proofs.SameShown.{same_shown-Decides}

-- the plan is of the machine's remaining steps
pub record IsPlanOf (m : Machine) (few more : ℕ) (p : Plan) : Type 0 where
  pub limits : p.limits ≡ node_limits m.limits
  pub count : p.count ≡ length m.names
  pub steps : p.steps ≡ m.state.remaining
  pub lost : p.lost ≡ few
  pub again : p.again ≡ more

any_of : (q : Question) (end : Cluster) (os : List Outcome) → told_by q os end ≡ true → IsAny (λ (o : Outcome). shown q o.cluster ≡ shown q end) os
any_of q end [] h = absurd (true≢false (sym h))
any_of q end (o ∷ os) h = go (same_shown (shown q o.cluster) (shown q end)) refl h (λ h. any_of q end os h)
  where
    go : (b : Bool) → same_shown (shown q o.cluster) (shown q end) ≡ b → (b || told_by q os end) ≡ true →
        (told_by q os end ≡ true → IsAny (λ (o : Outcome). shown q o.cluster ≡ shown q end) os) → IsAny (λ (o : Outcome). shown q o.cluster ≡ shown q end) (o ∷ os)
    go true is h rest = inl ((same_shown-Decides (shown q o.cluster) (shown q end)).0 is)
    go false is h rest = inr (rest h)

distinct : (q : Question) (os : List Outcome) → AreApart q os → AreDistinct q os
distinct q [] a = tt
distinct q (o ∷ os) a = (each os a.0, distinct q os a.1)
  where
    each : (os : List Outcome) → AllByRecursion (λ (x : Outcome). same_shown (shown q o.cluster) (shown q x.cluster) ≡ false) os →
        AllByRecursion (λ (x : Outcome). shown q o.cluster ≡ shown q x.cluster → ⊥) os
    each [] all = tt
    each (x ∷ xs) all = ((λ same. true≢false (sym ((same_shown-Decides (shown q o.cluster) (shown q x.cluster)).1 same) ∙ all.0)), each xs all.1)

moved : {j k r s : List Kept} {lost less again more : ℕ} → k ≡ j → less ≡ lost → more ≡ again → s ≡ r → IsNetworkRun j lost again r → IsNetworkRun k less more s
moved {j} {k} {r} {s} {lost} {less} {again} {more} a b c d run =
    subst (λ j. IsNetworkRun j less more s) (sym a) (subst (λ l. IsNetworkRun j l more s) (sym b) (subst (λ n. IsNetworkRun j lost n s) (sym c) (subst (λ r. IsNetworkRun j lost again r) (sym d) run)))

invents : (m : Machine) (lost again : ℕ) (p : Plan) → IsPlanOf m lost again p → (os : List Outcome) → AllByRecursion (IsOutcome p) os → InventsNothing m lost again os
invents m lost again p of [] all = tt
invents m lost again p of (o ∷ os) all = (
  record {
    is_run = moved (sym of.steps) (sym of.lost) (sym of.again) (ap (λ j. steps_at j o.run) (sym of.steps)) all.0.is_run;
    leads = (λ i. runs (sym of.limits i) (sym of.count i) (steps_at (sym of.steps i) o.run)) ∙ all.0.leads;
  },
  invents m lost again p of os all.1,
)

module _ (m : Machine) (q : Question) (lost again : ℕ) (p : Plan) (of : IsPlanOf m lost again p) (os : List Outcome) (all : AllIsTold p q os) where
  pub misses_nothing : MissesNothing m q lost again os
  misses_nothing run end can = any_of q end os (all.told end (record {
    rest = run;
    is_run = moved of.steps of.lost of.again refl can.is_run;
    ends = (λ i. runs (of.limits i) (of.count i) run) ∙ can.leads;
  }))

  pub invents_nothing : InventsNothing m lost again os
  invents_nothing = invents m lost again p of os all.outcomes

  pub are_distinct : AreDistinct q os
  are_distinct = distinct q os all.apart

  pub begins_as_recorded : BeginsAsRecorded m os
  begins_as_recorded = subst (BeginsAsRecorded m) (sym all.parts) (ap (λ j. steps_at j all.first.run) (sym of.steps) ∙ all.recorded ∙ of.steps)

-- where there were too many states

same_counts : (ts : List Turn) (w v : List Kept) → HaveSame w v → counts_of ts w ≡ counts_of ts v
same_counts [] w v same = refl
same_counts (t ∷ ts) w v same =
    let one : count_of t w ≡ count_of t v = same (λ n s. (n == t.node) && same_message t.delivers (delivery_of s)) in
    let rest = same_counts ts w v same in
    λ i. one i ∷ rest i

module _ (m : Machine) (q : Question) (lost again : ℕ) (p : Plan) (of : IsPlanOf m lost again p) where
  abbrev steps_of : List ℕ → List Kept
  steps_of = steps_at m.state.remaining

  abbrev paths : (os : List Outcome) (known : List (List ℕ)) → AllByRecursion (IsKeyOf p q os) known → List (List ℕ)
  paths os [] all = []
  paths os (k ∷ known) all = all.0.at.along.0 ∷ paths os known all.1

  as_many : (os : List Outcome) (known : List (List ℕ)) (all : AllByRecursion (IsKeyOf p q os) known) → length (paths os known all) ≡ length known
  as_many os [] all = refl
  as_many os (k ∷ known) all = ap suc (as_many os known all.1)

  path_is : (os : List Outcome) (k : List ℕ) (x : IsKeyOf p q os k) → steps_of x.at.along.0 ≡ x.first
  path_is os k x = ap (λ j. steps_at j x.at.along.0) (sym of.steps) ∙ sym x.at.along.1

  begins : IsPlan p q → (os : List Outcome) (k : List ℕ) (x : IsKeyOf p q os k) → CanBegin m lost again (steps_of x.at.along.0)
  begins plan os k x = subst (CanBegin m lost again) (sym (path_is os k x)) (record {
    rest = rest_of p q plan x.first x.counts x.cluster x.at;
    goes_on = moved (sym of.steps) (sym of.lost) (sym of.again) refl (goes_on p q plan x.first x.counts x.cluster x.at);
    accepted = (x.cluster, (λ i. runs (sym of.limits i) (sym of.count i) x.first) ∙ x.at.ran);
  })

  all_begin : IsPlan p q → (os : List Outcome) (known : List (List ℕ)) (all : AllByRecursion (IsKeyOf p q os) known) → AllByRecursion (λ x. CanBegin m lost again (steps_of x)) (paths os known all)
  all_begin plan os [] all = tt
  all_begin plan os (k ∷ known) all = (begins plan os k all.0, all_begin plan os known all.1)

  same_key : (os : List Outcome) (k j : List ℕ) (x : IsKeyOf p q os k) (y : IsKeyOf p q os j) → AreOfOneState m (steps_of x.at.along.0) (steps_of y.at.along.0) → j ≡ k
  same_key os k j x y same =
      let one = path_is os k x in
      let two = path_is os j y in
      let have : HaveSame x.first y.first = subst₂ HaveSame one two same.steps in
      let counts : y.counts ≡ x.counts = y.at.counted ∙ sym (same_counts p.turns x.first y.first have) ∙ sym x.at.counted in
      let ran : Ok y.cluster ≡ Ok x.cluster =
      sym y.at.ran ∙ (λ i. runs (of.limits i) (of.count i) (sym two i)) ∙ sym same.cluster ∙ (λ i. runs (sym of.limits i) (sym of.count i) (one i)) ∙ x.at.ran in
      let cluster : y.cluster ≡ x.cluster = cc in
      y.is ∙ (λ i. key_of p.tables p.count p.steps p.ranks (counts i) (cluster i)) ∙ sym x.is

  new_state : (os : List Outcome) (k : List ℕ) (x : IsKeyOf p q os k) (known : List (List ℕ)) (all : AllByRecursion (IsKeyOf p q os) known) → (IsAmong k known → ⊥) →
      AllByRecursion (λ y. AreOfOneState m (steps_of x.at.along.0) (steps_of y) → ⊥) (paths os known all)
  new_state os k x [] all new = tt
  new_state os k x (j ∷ known) all new = ((λ same. new (inl (same_key os k j x all.0 same))), new_state os k x known all.1 (λ h. new (inr h)))

  all_differ : (os : List Outcome) (known : List (List ℕ)) (all : AllByRecursion (IsKeyOf p q os) known) → AreDifferent known → AreOfDifferentStates m (paths os known all)
  all_differ os [] all differ = tt
  all_differ os (k ∷ known) all differ = (new_state os k all.0 known all.1 differ.0, all_differ os known all.1 differ.1)

  pub are_too_many : (most found : ℕ) → p.most ≡ most → IsTooMany p q found → AreTooMany m q lost again most found
  are_too_many most found same t = record {
    states = paths t.found t.known t.keys;
    more = (let more = t.more in let long = as_many t.found t.known t.keys in omega (arith, more, long, same));
    begin = all_begin t.plan t.found t.known t.keys;
    differ = all_differ t.found t.known t.keys t.differ;
    outcomes = t.found;
    count = t.count;
    invents_nothing = invents m lost again p of t.found t.outcomes;
    distinct = distinct q t.found t.apart;
  }
