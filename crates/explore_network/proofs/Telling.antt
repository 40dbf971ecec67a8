-- Telling an outcome, and when all was told that begins with some steps.
use Rattle.std.proofs.Common.{◌≡◌, ◌⊎◌, ◌||◌, inl, inr, ℕ, suc, ◌+◌, ◌-◌, ◌<◌, ◌≤◌, ◌==◌, not, Bool, true, false, List, [], ◌∷◌, ◌++◌, length, length-append, drop, slice_get, Option, Some, None, Ok, refl, sym, ap, ◌∙◌, subst, append-nil, true≢false, arith}
use Rattle.std.proofs.lemmas.Bool.{cases_lt, eqb-true, leb-true}
use Rattle.std.specs.List.{AllByRecursion, list_any}
use Rattle.node_core.specs.Operations.{Deliver}
use Rattle.journal_core.specs.Journals.{Kept}
use Rattle.bench_core.specs.Clusters.{Cluster, step}
use Rattle.bench_core.specs.Runs.{runs}
use Rattle.bench_core.specs.Laws.{delivery}
use Rattle.order_core.proofs.Places.{from_on}
use Rattle.network_core.specs.NetworkRuns.{IsNetworkRun, is_delivery, is_ordered, ordered}
use Rattle.network_core.specs.Settling.{IsWalk}
use Rattle.network_core.proofs.Settling.{settle_holds}
use Rattle.network_rules.specs.declared.turn.Turn.{Turn}
use Rattle.explore_network.specs.Plans.{walk_of, IsPlan, Plan}
use Rattle.explore_network.specs.Questions.{shown, Question}
use Rattle.explore_network.specs.SameShown.{same_shown}
use Rattle.explore_network.specs.Turns.{count_of, counts_of}
use Rattle.network_rules.specs.Turns.{delivery_of, is_end, is_whole, is_whole_by}
use Rattle.explore_network.specs.Walks.{next_in, steps_at, told_by, with_step, AreApart, AreMore, IsAt, IsBehind, IsOutcome, IsTold, Keeps, Outcome}
use Rattle.explore_network.proofs.AllTurns.{all_append, each_has, Has}
use Rattle.network_rules.proofs.Lookups.{all_get}
use Rattle.explore_network.proofs.Coming.{alike, turns_are, Alike}
use Rattle.explore_network.proofs.Ends.{ends_run, run_ends, whole_fits}
use Rattle.explore_network.proofs.Firsts.{run_length}
use Rattle.explore_network.proofs.Going.{at_more, steps_push}
use Rattle.explore_network.proofs.Nth.{nth}
use Rattle.explore_network.proofs.Ranked.{ranked}
use Rattle.explore_network.proofs.SameShown.{same_shown-Decides}
use Rattle.explore_network.proofs.SameKeys.{all_have, flip, no_delivery}
use Rattle.explore_network.proofs.ToldWalks.{all_places}
use Rattle.explore_network.proofs.Tours.{keys_more, too_long}
use Rattle.network_rules.proofs.Tests.{both_true}
use Rattle.explore_network.proofs.TurnKinds.{delivers_some, of_turn, own_count}

-- an outcome more

pub more_one : (os : List Outcome) (o : Outcome) → AreMore os (os ++ o ∷ [])
more_one os o = (o ∷ [], refl)

told_last : (f : Outcome → Bool) (os : List Outcome) (o : Outcome) → f o ≡ true → list_any f (os ++ o ∷ []) ≡ true
told_last f [] o h = ap (λ b. b || false) h
told_last f (x ∷ os) o h = go (f x) (told_last f os o h)
  where
    go : (b : Bool) → list_any f (os ++ o ∷ []) ≡ true → (b || list_any f (os ++ o ∷ [])) ≡ true
    go true rest = refl
    go false rest = rest

pub tells_itself : (q : Question) (os : List Outcome) (o : Outcome) → told_by q (os ++ o ∷ []) o.cluster ≡ true
tells_itself q os o = told_last (λ (x : Outcome). same_shown (shown q x.cluster) (shown q o.cluster)) os o ((same_shown-Decides (shown q o.cluster) (shown q o.cluster)).1 refl)

none_of : (f : Outcome → Bool) (os : List Outcome) → list_any f os ≡ false → AllByRecursion (λ (x : Outcome). f x ≡ false) os
none_of f [] h = tt
none_of f (x ∷ os) h = go (f x) refl h (λ h. none_of f os h)
  where
    go : (b : Bool) → f x ≡ b → (b || list_any f os) ≡ false → (list_any f os ≡ false → AllByRecursion (λ (x : Outcome). f x ≡ false) os) → AllByRecursion (λ (x : Outcome). f x ≡ false) (x ∷ os)
    go true is h rest = absurd (true≢false h)
    go false is h rest = (is, rest h)

apart_push : (q : Question) (os : List Outcome) (o : Outcome) → AreApart q os → AllByRecursion (λ (x : Outcome). same_shown (shown q x.cluster) (shown q o.cluster) ≡ false) os → AreApart q (os ++ o ∷ [])
apart_push q [] o a all = (tt, tt)
apart_push q (x ∷ os) o a all = (all_append (λ (y : Outcome). same_shown (shown q x.cluster) (shown q y.cluster) ≡ false) os (o ∷ []) a.0 (all.0, tt), apart_push q os o a.1 all.1)

pub keeps_outcome : (p : Plan) (q : Question) (known : List (List ℕ)) (os : List Outcome) (o : Outcome) → Keeps p q known os → IsOutcome p o → told_by q os o.cluster ≡ false → Keeps p q known (os ++ o ∷ [])
keeps_outcome p q known os o k is new = record {
  keys = keys_more p q os (os ++ o ∷ []) known (more_one os o) k.keys;
  differ = k.differ;
  outcomes = all_append (IsOutcome p) os (o ∷ []) k.outcomes (is, tt);
  apart = apart_push q os o k.apart (none_of (λ (x : Outcome). same_shown (shown q x.cluster) (shown q o.cluster)) os new);
  few = k.few;
}

-- where nothing need come any more

module _ (p : Plan) (q : Question) (plan : IsPlan p q) (w : List Kept) (counts : List ℕ) (c : Cluster) (at : IsAt p w counts c) where
  of_counts : is_end p.turns counts p.lost p.again ≡ is_end p.turns (counts_of p.turns w) p.lost p.again
  of_counts = ap (λ (l : List ℕ). is_end p.turns l p.lost p.again) at.counted

  all_own : is_end p.turns (counts_of p.turns w) p.lost p.again ≡ true → (n : ℕ) → ordered w n ≡ ordered p.steps n
  all_own ends n = nothing_later (at.own n).0 enough ∙ sym (at.own n).1
    where
      nothing_later : (later : List Kept) → length (ordered p.steps n) ≤ length (ordered w n) → ordered w n ≡ ordered w n ++ (at.own n).0
      nothing_later later le = go (at.own n).0 (let long = ap length (at.own n).1 ∙ length-append (ordered w n) (at.own n).0 in omega (arith, long, le))
        where
          go : (later : List Kept) → length later ≤ 0 → ordered w n ≡ ordered w n ++ later
          go [] h = sym (append-nil (ordered w n))
          go (x ∷ xs) h = absurd (omega (arith, h))

      enough : length (ordered p.steps n) ≤ length (ordered w n)
      enough = go (cases_lt 0 (length (ordered p.steps n)))
        where
          go : (0 < length (ordered p.steps n)) ⊎ (length (ordered p.steps n) ≤ 0) → length (ordered p.steps n) ≤ length (ordered w n)
          go (inr none) = omega (arith, none)
          go (inl some) =
              let f = nth (is_ordered n) p.steps 0 some in
              let r = ranked p q plan f.place f.step f.at in
              let of = of_turn r.turn f.step r.is in
              let is = both_true (f.step.node == n) (not (is_delivery f.step.step)) f.is in
              let own = of.1 ∙ no_delivery f.step.step (flip (is_delivery f.step.step) is.1) in
              let node : r.turn.node ≡ n = sym of.0 ∙ eqb-true f.step.node n is.0 in
              let fits = all_get (λ (t : Turn). is_whole_by t.delivers t.recorded (count_of t w) ≡ true) p.turns r.rank.turn r.turn
              (whole_fits p.turns w [] (both_true (is_whole p.turns (counts_of p.turns w) 0) _ ends).0) r.found in
              let le = leb-true r.turn.recorded (count_of r.turn w) (sym (ap (λ o. is_whole_by o r.turn.recorded (count_of r.turn w)) own) ∙ fits) in
              let recorded = all_get (λ (t : Turn). t.recorded ≡ count_of t p.steps) p.turns r.rank.turn r.turn (turns_are p q plan).recorded r.found in
              let here = own_count r.turn w own ∙ ap (λ n. length (ordered w n)) node in
              let there = own_count r.turn p.steps own ∙ ap (λ n. length (ordered p.steps n)) node in
              omega (arith, le, recorded, here, there)

  pub end_is_run : is_end p.turns counts p.lost p.again ≡ true → IsNetworkRun p.steps p.lost p.again w
  end_is_run h =
      let ends = sym of_counts ∙ h in
      ends_run p.steps w p.lost p.again p.turns (turns_are p q plan)
      (all_places (Has p.turns) p.steps (λ place k here. subst (λ (ts : List Turn). Has ts k) (sym plan.turns) (each_has p.steps p.count place k here)))
      (all_have p q plan w counts c at) at.own ends (all_own ends)

  pub run_is_end : IsNetworkRun p.steps p.lost p.again w → is_end p.turns counts p.lost p.again ≡ true
  run_is_end run = of_counts ∙ run_ends p.steps w p.lost p.again run p.turns (turns_are p q plan)

  -- where all was told that begins with one step more, and the cluster, if nothing need come any more
  pub all_told : (os : List Outcome) → IsWalk (walk_of p (told_by q os)) → (IsNetworkRun p.steps p.lost p.again w → told_by q os c ≡ true) →
      ((place : ℕ) (k : Kept) (d : Cluster) → next_in p counts place ≡ true → slice_get p.steps place ≡ Some k → step c k.node k.step ≡ Ok d → IsTold p q os (w ++ k ∷ [])) → IsTold p q os w
  all_told os walk ended each = settle_holds.all (walk_of p (told_by q os)) w c at.ran ended further
    where
      further : (k : Kept) (d : Cluster) (rest : List Kept) → IsNetworkRun p.steps p.lost p.again (w ++ k ∷ rest) → step c k.node k.step ≡ Ok d → IsTold p q os (w ++ k ∷ [])
      further k d rest run took = go (delivery_of k.step) refl (alike p q plan w counts c at k rest run)
        where
          go : (o : Option (ℕ × ℕ)) → delivery_of k.step ≡ o → Alike p counts k → IsTold p q os (w ++ k ∷ [])
          go None own a =
              let same = a.own own in
              subst (λ (x : Kept). IsTold p q os (w ++ x ∷ [])) same (each a.place a.step d a.next a.at (subst (λ (x : Kept). step c x.node x.step ≡ Ok d) (sym same) took))
          go (Some m) is a =
              let here : k ≡ delivery k.number k.node m.0 m.1 = (λ i. record { number = k.number; node = k.node; step = delivers_some k.step m is i }) in
              let there : a.step ≡ delivery a.step.number k.node m.0 m.1 = (λ i. record { number = a.step.number; node = a.node i; step = delivers_some a.step.step m (a.delivers ∙ is) i }) in
              let took_it : step c k.node (Deliver m.0 m.1) ≡ Ok d = ap (step c k.node) (sym (delivers_some k.step m is)) ∙ took in
              subst (λ (x : Kept). IsTold p q os (w ++ x ∷ [])) (sym here)
              (settle_holds.renumbered (walk_of p (told_by q os)) w a.step.number k.number k.node m.0 m.1 c d walk at.ran took_it
              (subst (λ (x : Kept). IsTold p q os (w ++ x ∷ [])) there
              (each a.place a.step d a.next a.at (subst (λ (x : Kept). step c x.node x.step ≡ Ok d) (sym there) took_it))))

-- one step further

pub behind_at : (p : Plan) (q : Question) (path : List ℕ) (place : ℕ) (k : Kept) (counts new : List ℕ) (c : Cluster) → IsPlan p q → (b : IsBehind p path place k counts c) →
    new ≡ counts_of p.turns (steps_at p.steps path ++ k ∷ []) → IsAt p (steps_at p.steps (path ++ place ∷ [])) new c
behind_at p q path place k counts new c plan b counted =
    subst (λ (w : List Kept). IsAt p w new c) (sym (steps_push p.steps path place k b.here)) (at_more p q plan (steps_at p.steps path) counts b.before b.at place k c new b.here b.next b.took counted)

pub one_longer : (p : Plan) (path : List ℕ) (place left : ℕ) (k : Kept) → slice_get p.steps place ≡ Some k → length (steps_at p.steps path) + left ≡ length p.steps + p.again → 0 < left →
    length (steps_at p.steps (path ++ place ∷ [])) + (left - 1) ≡ length p.steps + p.again
one_longer p path place left k here long some =
    let push = ap length (steps_push p.steps path place k here) ∙ length-append (steps_at p.steps path) (k ∷ []) in
    omega (arith, push, long, some)

pub none_left : (p : Plan) (q : Question) (os : List Outcome) (w : List Kept) (k : Kept) (left : ℕ) → length w + left ≡ length p.steps + p.again → left ≤ 0 → IsTold p q os (w ++ k ∷ [])
none_left p q os w k left long none = too_long p q os (w ++ k ∷ []) (let push = length-append w (k ∷ []) in omega (arith, push, long, none))

pub short_path : (j : List Kept) (path : List ℕ) → length (steps_at j path) ≤ length path
short_path j [] = omega arith
short_path j (x ∷ path) = go (slice_get j x) (short_path j path)
  where
    go : (o : Option Kept) → length (steps_at j path) ≤ length path → length (with_step o (steps_at j path)) ≤ suc (length path)
    go None h = omega (arith, h)
    go (Some k) h = omega (arith, h)

-- whether one of those from a place on shows the same
pub told_on : (q : Question) (os : List Outcome) (i : ℕ) (o : Outcome) (c : Cluster) → slice_get os i ≡ Some o →
    told_by q (drop i os) c ≡ (same_shown (shown q o.cluster) (shown q c) || told_by q (drop (i + 1) os) c)
told_on q os i o c at = ap (λ (l : List Outcome). told_by q l c) (from_on os i o at)

-- the nodes are few, at each end

pub few_nodes : (p : Plan) (q : Question) → IsPlan p q → (w : List Kept) (c : Cluster) → runs p.limits p.count w ≡ Ok c → length c ≤ 32
few_nodes p q plan w c ran =
    let long = run_length p w c ran in
    let few = plan.few in
    omega (arith, long, few)

pub all_few : (p : Plan) (q : Question) → IsPlan p q → (os : List Outcome) → AllByRecursion (IsOutcome p) os → AllByRecursion (λ (o : Outcome). length o.cluster ≤ 32) os
all_few p q plan [] all = tt
all_few p q plan (o ∷ os) all = (few_nodes p q plan (steps_at p.steps o.run) o.cluster all.0.leads, all_few p q plan os all.1)
