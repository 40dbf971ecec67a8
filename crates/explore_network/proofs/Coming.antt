-- Whatever comes next in a run of the network, a recorded step like it is the next of its turn.
use Rattle.std.proofs.Common.{◌≡◌, ◌⊎◌, inl, inr, ℕ, ◌+◌, ◌-◌, ◌<◌, ◌≤◌, ◌==◌, ◌&&◌, nat_lt, Bool, true, false, cond, List, [], ◌∷◌, ◌++◌, filter, length, length-append, take, slice_get, Option, Some, None, refl, sym, ap, ◌∙◌, subst, append_assoc, arith}
use Rattle.std.proofs.lemmas.Bool.{eq-eqb, lt-ltb, cases_lt, ltb-true}
use Rattle.std.proofs.lemmas.List.Elements.{filter-append}
use Rattle.std.specs.List.{AllByRecursion}
use Rattle.journal_core.specs.Journals.{Kept}
use Rattle.bench_core.specs.Clusters.{Cluster}
use Rattle.bench_core.specs.Laws.{delivery}
use Rattle.network_core.specs.NetworkRuns.{IsNetworkRun, how_many, is_of_kind, is_ordered, ordered}
use Rattle.network_core.specs.Settling.{MayCome}
use Rattle.network_core.proofs.Counts as counts_of_runs
use Rattle.network_core.proofs.NextDeliveries.{next_delivery_holds, total as all_of_kind}
use Rattle.network_rules.specs.declared.turn.Turn.{Turn}
use Rattle.explore_network.specs.Plans.{walk_of, IsPlan, Plan}
use Rattle.explore_network.specs.Questions.{Question}
use Rattle.explore_network.specs.Turns.{count_of, named}
use Rattle.network_rules.specs.Turns.{delivery_of, extra, is_next_by, is_of, same_message}
use Rattle.explore_network.specs.Walks.{next_in, IsAt}
use Rattle.network_rules.proofs.Lookups.{all_get}
use Rattle.explore_network.proofs.AllTurns.{are_turns, AreTurns}
use Rattle.explore_network.proofs.Going.{ordered_in}
use Rattle.explore_network.proofs.Nth.{nth, parted, same_parts, Nth}
use Rattle.explore_network.proofs.Ranked.{next_is, ranked, Ranked}
use Rattle.explore_network.proofs.Sums.{extra_is, few, one_extra, total, total_le}
use Rattle.explore_network.proofs.TurnKinds.{delivers_none, delivers_some, kind_count, named_steps, of_named, of_turn, own_count, own_is}

ge_ltb : (a b : ℕ) → b ≤ a → nat_lt a b ≡ false
ge_ltb a b le = pick (nat_lt a b) refl
  where
    pick : (x : Bool) → nat_lt a b ≡ x → x ≡ false
    pick true h = absurd (let lt = ltb-true a b h in omega (arith, lt, le))
    pick false h = refl

-- the turns of a plan
pub turns_are : (p : Plan) (q : Question) → IsPlan p q → AreTurns p.steps p.turns
turns_are p q plan = subst (AreTurns p.steps) (sym plan.turns) (are_turns p.steps p.count)

-- what comes more often than recorded comes a second time

-- of a beginning of a run of the network, and a turn
module _ (j v rest : List Kept) (lost again : ℕ) (run : IsNetworkRun j lost again (v ++ rest)) where
  pub extra_of : (t : Turn) → t.recorded ≡ count_of t j → count_of t v - t.recorded ≤ count_of t run.repeated
  extra_of t recorded = go t.delivers refl
    where
      go : (o : Option (ℕ × ℕ)) → t.delivers ≡ o → count_of t v - t.recorded ≤ count_of t run.repeated
      go None own =
          let here = own_count t v own in
          let there = own_count t j own in
          let both : length (ordered v t.node) + length (ordered rest t.node) ≡ length (ordered j t.node) =
          sym (length-append (ordered v t.node) (ordered rest t.node)) ∙ ap length (sym (filter-append (is_ordered t.node) v rest)) ∙ ap length (run.own t.node) in
          omega (arith, here, there, both, recorded)
      go (Some m) is =
          let all = all_of_kind j (v ++ rest) lost again t.node m.0 m.1 run in
          let both = counts_of_runs.count_append (is_of_kind t.node m.0 m.1) v rest in
          let here = kind_count t m v is in
          let there = kind_count t m j is in
          let second = kind_count t m run.repeated is in
          omega (arith, all, both, here, there, second, recorded)

  pub extra_few : (ts : List Turn) → AreTurns j ts → total (λ t. count_of t v - t.recorded) ts ≤ again
  extra_few ts are =
      let le = total_le (λ t. count_of t v - t.recorded) (λ t. count_of t run.repeated) ts (each ts are.recorded) in
      let sum = few ts run.repeated are.apart in
      let most = run.few_repeated in
      omega (arith, le, sum, most)
    where
      each : (ts : List Turn) → AllByRecursion (λ (t : Turn). t.recorded ≡ count_of t j) ts → AllByRecursion (λ (t : Turn). count_of t v - t.recorded ≤ count_of t run.repeated) ts
      each [] all = tt
      each (t ∷ ts) all = (extra_of t all.0, each ts all.1)

-- a recorded step like this one, which may come next
pub record Alike (p : Plan) (counts : List ℕ) (k : Kept) : Type 0 where
  pub place : ℕ
  pub step : Kept
  pub at : slice_get p.steps place ≡ Some step
  pub next : next_in p counts place ≡ true
  pub node : step.node ≡ k.node
  pub delivers : delivery_of step.step ≡ delivery_of k.step
  pub own : delivery_of k.step ≡ None → step ≡ k

module _ (p : Plan) (q : Question) (plan : IsPlan p q) (w : List Kept) (counts : List ℕ) (c : Cluster) (at : IsAt p w counts c) (k : Kept) (rest : List Kept)
    (run : IsNetworkRun p.steps p.lost p.again (w ++ k ∷ rest)) where
  abbrev more : Bool
  more = nat_lt (extra p.turns counts 0) p.again

  -- a step of the turn, if it is the next
  like : (place : ℕ) (step : Kept) → slice_get p.steps place ≡ Some step → is_of (named k) step ≡ true →
      ((r : Ranked p place step) → is_next_by r.turn.delivers r.turn.recorded (count_of r.turn (take place p.steps)) (count_of r.turn w) more ≡ true) →
      (delivery_of k.step ≡ None → step ≡ k) → Alike p counts k
  like place step here is next own =
      let r = ranked p q plan place step here in
      let of = of_turn (named k) step is in
      record { place = place; step = step; at = here; next = next_is p w counts c place step at r ∙ next r; node = of.0; delivers = sym of.1; own = own }

  -- its turn's counts are those of the turn of k
  same_count : (place : ℕ) (step : Kept) → is_of (named k) step ≡ true → (r : Ranked p place step) → (ks : List Kept) → count_of r.turn ks ≡ count_of (named k) ks
  same_count place step is r ks = sym (named_steps r.turn step r.is ks) ∙ named_steps (named k) step is ks

  delivers_same : (place : ℕ) (step : Kept) → is_of (named k) step ≡ true → (r : Ranked p place step) → r.turn.delivers ≡ delivery_of k.step
  delivers_same place step is r = (of_turn r.turn step r.is).1 ∙ sym (of_turn (named k) step is).1

  recorded_same : (place : ℕ) (step : Kept) → is_of (named k) step ≡ true → (r : Ranked p place step) → r.turn.recorded ≡ count_of (named k) p.steps
  recorded_same place step is r =
      all_get (λ (t : Turn). t.recorded ≡ count_of t p.steps) p.turns r.rank.turn r.turn (turns_are p q plan).recorded r.found ∙ same_count place step is r p.steps

  -- an own step
  own_like : delivery_of k.step ≡ None → Alike p counts k
  own_like own =
      let n = nth (is_of (named k)) p.steps (count_of (named k) w) fewer in
      like n.place n.step n.at n.is
      (λ r. ap (λ o. is_next_by o r.turn.recorded (count_of r.turn (take n.place p.steps)) (count_of r.turn w) more) (delivers_same n.place n.step n.is r ∙ own)
      ∙ eq-eqb _ _ (same_count n.place n.step n.is r (take n.place p.steps) ∙ n.before ∙ sym (same_count n.place n.step n.is r w)))
      (λ h. same_step n)
    where
      is_own : is_ordered k.node k ≡ true
      is_own = ordered_in k (delivers_none k.step own)

      whole : ordered p.steps k.node ≡ ordered w k.node ++ k ∷ ordered rest k.node
      whole = sym (run.own k.node) ∙ filter-append (is_ordered k.node) w (k ∷ rest) ∙ ap (λ b. ordered w k.node ++ cond b (k ∷ ordered rest k.node) (ordered rest k.node)) is_own

      of_list : (ks : List Kept) → filter (is_of (named k)) ks ≡ ordered ks k.node
      of_list ks = λ i. filter (λ x. own_is (named k) x own i) ks

      fewer : count_of (named k) w < count_of (named k) p.steps
      fewer =
          let here = ap length (of_list w) in
          let there = ap length (of_list p.steps ∙ whole) in
          let long = length-append (ordered w k.node) (k ∷ ordered rest k.node) in
          omega (arith, here, there, long)

      same_step : (n : Nth (is_of (named k)) p.steps (count_of (named k) w)) → n.step ≡ k
      same_step n =
          let parts = parted (is_of (named k)) p.steps n.place n.step n.at n.is in
          let same = same_parts (filter (is_of (named k)) (take n.place p.steps)) (ordered w k.node) (n.step ∷ parts.0) (k ∷ ordered rest k.node)
          (sym parts.1 ∙ of_list p.steps ∙ whole) (n.before ∙ ap length (of_list w)) in
          let both = same.rest in cc

  -- one more may come again, where as many came as were recorded
  may_again : (place : ℕ) (step : Kept) → is_of (named k) step ≡ true → (r : Ranked p place step) → count_of (named k) p.steps ≤ count_of (named k) w → more ≡ true
  may_again place step is r over =
      let same = of_turn r.turn step r.is in
      let of = of_turn (named k) step is in
      let node : k.node ≡ r.turn.node = sym of.0 ∙ same.0 in
      let here : is_of r.turn k ≡ true = (λ i. (k.node == sym node i) && same_message (delivers_same place step is r i) (delivery_of k.step)) ∙ of_named k in
      let one = recorded_same place step is r in
      let two = same_count place step is r w in
      let grows = one_extra p.turns w k r.rank.turn r.turn r.found here (omega (arith, one, two, over)) in
      let so_far = ap (λ (l : List ℕ). extra p.turns l 0) at.counted ∙ extra_is p.turns w [] in
      let all = extra_few p.steps (w ++ k ∷ []) rest p.lost p.again (subst (IsNetworkRun p.steps p.lost p.again) (sym (append_assoc w (k ∷ []) rest)) run) p.turns (turns_are p q plan) in
      lt-ltb (extra p.turns counts 0) p.again (omega (arith, grows, so_far, all))

  -- a delivery
  delivery_like : (m : ℕ × ℕ) → delivery_of k.step ≡ Some m → Alike p counts k
  delivery_like m is = go (cases_lt (count_of (named k) w) (count_of (named k) p.steps))
    where
      as_delivery : k ≡ delivery k.number k.node m.0 m.1
      as_delivery = λ i. record { number = k.number; node = k.node; step = delivers_some k.step m is i }

      may : MayCome (walk_of p (λ c. true)) w k.node m.0 m.1
      may = next_delivery_holds (walk_of p (λ c. true)) w rest k.number k.node m.0 m.1 (subst (λ (x : Kept). IsNetworkRun p.steps p.lost p.again (w ++ x ∷ rest)) as_delivery run)

      of_j : count_of (named k) p.steps ≡ how_many (is_of_kind k.node m.0 m.1) p.steps
      of_j = kind_count (named k) m p.steps is

      of_w : count_of (named k) w ≡ how_many (is_of_kind k.node m.0 m.1) w
      of_w = kind_count (named k) m w is

      not_own : delivery_of k.step ≡ None → {X : Type 0} → X
      not_own none = absurd (let both : Some m ≡ None = sym is ∙ none in cc)

      by_some : (o : Option (ℕ × ℕ)) (n : ℕ × ℕ) → o ≡ Some n → (rec before count : ℕ) → is_next_by o rec before count more ≡ is_next_by (Some n) rec before count more
      by_some o n h rec before count = ap (λ o. is_next_by o rec before count more) h

      go : (count_of (named k) w < count_of (named k) p.steps) ⊎ (count_of (named k) p.steps ≤ count_of (named k) w) → Alike p counts k
      go (inl lt) =
          let n = nth (is_of (named k)) p.steps (count_of (named k) w) lt in
          like n.place n.step n.at n.is
          (λ r. by_some r.turn.delivers m (delivers_same n.place n.step n.is r ∙ is) r.turn.recorded (count_of r.turn (take n.place p.steps)) (count_of r.turn w)
          ∙ ap (λ b. cond b (count_of r.turn (take n.place p.steps) == count_of r.turn w) ((count_of r.turn (take n.place p.steps) == 0) && (nat_lt (count_of r.turn w - r.turn.recorded) r.turn.recorded && more)))
          (lt-ltb _ _ (let one = recorded_same n.place n.step n.is r in let two = same_count n.place n.step n.is r w in omega (arith, one, two, lt)))
          ∙ eq-eqb _ _ (same_count n.place n.step n.is r (take n.place p.steps) ∙ n.before ∙ sym (same_count n.place n.step n.is r w)))
          (λ none. not_own none)
      go (inr over) =
          let first = may.recorded in
          let n = nth (is_of (named k)) p.steps 0 (omega (arith, first, of_j)) in
          like n.place n.step n.at n.is
          (λ r. by_some r.turn.delivers m (delivers_same n.place n.step n.is r ∙ is) r.turn.recorded (count_of r.turn (take n.place p.steps)) (count_of r.turn w)
          ∙ ap (λ b. cond b (count_of r.turn (take n.place p.steps) == count_of r.turn w) ((count_of r.turn (take n.place p.steps) == 0) && (nat_lt (count_of r.turn w - r.turn.recorded) r.turn.recorded && more)))
          (ge_ltb _ _ (let one = recorded_same n.place n.step n.is r in let two = same_count n.place n.step n.is r w in omega (arith, one, two, over)))
          ∙ (λ i. eq-eqb _ _ (same_count n.place n.step n.is r (take n.place p.steps) ∙ n.before) i && (
          lt-ltb (count_of r.turn w - r.turn.recorded) r.turn.recorded (let one = recorded_same n.place n.step n.is r in let two = same_count n.place n.step n.is r w in let twice = may.twice in omega (arith, one, two, twice, of_j, of_w)) i
          && may_again n.place n.step n.is r over i)))
          (λ none. not_own none)

  -- whatever it is
  pub alike : Alike p counts k
  alike = go (delivery_of k.step) refl
    where
      go : (o : Option (ℕ × ℕ)) → delivery_of k.step ≡ o → Alike p counts k
      go None is = own_like is
      go (Some m) is = delivery_like m is
