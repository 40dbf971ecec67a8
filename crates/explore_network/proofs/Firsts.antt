-- Steps that can come before all that needs not come first.
use Rattle.std.proofs.Common.{◌≡◌, ◌⊎◌, inl, inr, ℕ, ◌<◌, ◌≤◌, ◌==◌, not, Bool, true, false, List, [], ◌∷◌, ◌++◌, length, slice_get, Some, None, Ok, refl, sym, ap, ◌∙◌, subst, arith}
use Rattle.std.proofs.lemmas.Bool.{cases_lt}
use Rattle.std.specs.FinSet as set
use Rattle.std.specs.Option.{is_some}
use Rattle.dots_core.specs.declared.dot.Dot.{Dot}
use Rattle.payload_core.specs.Messages.{Message}
use Rattle.node_core.specs.Nodes.{Node}
use Rattle.journal_core.specs.Journals.{Kept}
use Rattle.bench_core.specs.Clusters.{Cluster, opening_of, step}
use Rattle.bench_core.specs.Laws.{delivery}
use Rattle.bench_core.specs.Runs.{runs}
use Rattle.bench_core.proofs.Clusters.{stepped}
use Rattle.bench_core.proofs.Openings.{opening_length}
use Rattle.network_core.proofs.Keys.{keeps_length}
use Rattle.network_core.specs.Cones.{cares, position}
use Rattle.network_core.specs.EasySteps.{IsEasy, IsAlwaysEasy as own, IsKnownUp as known_up}
use Rattle.network_core.specs.NetworkRuns.{how_many, is_of_kind}
use Rattle.network_core.specs.Settling.{IsQuiet, IsSettled, IsSpent}
use Rattle.network_core.proofs.NextDeliveries.{quiet_holds}
use Rattle.network_core.proofs.Settling.{settle_holds}
use Rattle.network_rules.specs.declared.turn.Turn.{Turn}
use Rattle.network_rules.specs.Easy.{BringsNone, IsEasyAt, IsAlwaysEasy, IsKnownUp}
use Rattle.explore_network.specs.Easy.{CanGoFirst, GoesFirst, IsIdleStep, IsOwnStep}
use Rattle.explore_network.specs.Plans.{cone_of, walk_of, IsPlan, Plan}
use Rattle.explore_network.specs.Questions.{Question}
use Rattle.network_rules.specs.Tables.{is_wanted, matter}
use Rattle.network_rules.specs.Turns.{count_at, is_of, AreSpent}
use Rattle.explore_network.specs.Turns.{count_of, named, turn_of}
use Rattle.explore_network.specs.Walks.{next_in, CanBeFirst, IsAt, IsFirst}
use Rattle.network_rules.proofs.Lookups.{all_get, get_map}
use Rattle.explore_network.proofs.AllTurns.{own_turn_at}
use Rattle.explore_network.proofs.Coming.{turns_are}
use Rattle.explore_network.proofs.Going.{own_next}
use Rattle.explore_network.proofs.Nth.{nth}
use Rattle.explore_network.proofs.Ranked.{came_so, ranked, Ranked}
use Rattle.network_rules.proofs.Tests.{both_true}
use Rattle.explore_network.proofs.TurnKinds.{delivers_some, kind_count, of_turn, own_count}
use Rattle.std.proofs.lemmas.Option.{slice_get_within}
use Rattle.std.specs.Option.{unwrap_or}

pub run_length : (p : Plan) (w : List Kept) (c : Cluster) → runs p.limits p.count w ≡ Ok c → length c ≡ p.count
run_length p w c ran = keeps_length (opening_of p.limits p.count) c w ran ∙ opening_length p.limits p.count

module _ (p : Plan) (q : Question) (plan : IsPlan p q) (w : List Kept) (counts : List ℕ) (c : Cluster) (at : IsAt p w counts c) where
  -- how many own steps a node took
  pub taken : (n : ℕ) → n < p.count → count_at counts n ≡ position w n
  taken n lt =
      ap (λ (l : List ℕ). count_at l n) at.counted
      ∙ ap (λ o. unwrap_or o 0) (get_map (λ (t : Turn). count_of t w) p.turns n (turn_of p.steps n None) (ap (λ (l : List Turn). slice_get l n) plan.turns ∙ own_turn_at p.steps n p.count lt))
      ∙ own_count (turn_of p.steps n None) w refl

  pub in_count : (n : ℕ) (x : Node) → slice_get c n ≡ Some x → n < p.count
  in_count n x is = let lt = slice_get_within c n x is in let long = run_length p w c at.ran in omega (arith, lt, long)

  easy_too : (k : Kept) → IsEasyAt c k.node k.step → IsEasy p.limits p.count w k.node k.step
  easy_too k (IsAlwaysEasy h) = own h
  easy_too k (IsKnownUp name is knows) = known_up name is (λ d x ran there. (let both : Ok d ≡ Ok c = sym ran ∙ at.ran in let same : d ≡ c = cc in
      knows x (ap (λ (e : Cluster). slice_get e k.node) (sym same) ∙ there)))

  -- where all turns of a node's deliveries are spent, nothing more is delivered there
  quiet : (told : Cluster → Bool) (n : ℕ) → AreSpent p.turns counts p.again n → IsQuiet (walk_of p told) w n
  quiet told n spent = quiet_holds (walk_of p told) w n (λ sender number. each sender number (cases_lt 0 (how_many (is_of_kind n sender number) p.steps)))
    where
      each : (sender number : ℕ) → (0 < how_many (is_of_kind n sender number) p.steps) ⊎ (how_many (is_of_kind n sender number) p.steps ≤ 0) → IsSpent (walk_of p told) w n sender number
      each sender number (inr none) = record { came = omega (arith, none); last = inr (omega (arith, none)) }
      each sender number (inl some) =
          let x = delivery 0 n sender number in
          let f = nth (is_of (named x)) p.steps 0 (let same = kind_count (named x) (sender, number) p.steps refl in omega (arith, same, some)) in
          let r = ranked p q plan f.place f.step f.at in
          let one = of_turn r.turn f.step r.is in
          let two = of_turn (named x) f.step f.is in
          let node : r.turn.node ≡ n = sym one.0 ∙ two.0 in
          let delivers : r.turn.delivers ≡ Some (sender, number) = one.1 ∙ sym two.1 in
          let s = spent r.rank.turn r.turn r.found node (ap is_some delivers) in
          let recorded = all_get (λ (t : Turn). t.recorded ≡ count_of t p.steps) p.turns r.rank.turn r.turn (turns_are p q plan).recorded r.found in
          let came = came_so p w counts c f.place f.step at r in
          let of_j : count_of r.turn p.steps ≡ how_many (is_of_kind n sender number) p.steps = kind_count r.turn (sender, number) p.steps delivers ∙ ap (λ n. how_many (is_of_kind n sender number) p.steps) node in
          let of_w : count_of r.turn w ≡ how_many (is_of_kind n sender number) w = kind_count r.turn (sender, number) w delivers ∙ ap (λ n. how_many (is_of_kind n sender number) w) node in
          let le = s.1 in
          record { came = omega (arith, le, recorded, came, of_j, of_w); last = inl s.0 }

  -- what matters is what the tables say
  nothing_new : (n : ℕ) → n < p.count → (m : Message) → BringsNone p.tables.dots (matter p.tables n (count_at counts n)) n m → (d : Dot) →
      (cares (cone_of p.tables) w).at n d ≡ true → set.contains m.seen d ≡ false
  nothing_new n lt m none d h =
      let both = both_true (is_wanted p.tables.dots d) _ h in
      let more = both_true (set.contains (matter p.tables n (position w n)) d.name) (not (d.name == n)) both.1 in
      none d both.0 (out (d.name == n) more.1) (ap (λ i. set.contains (matter p.tables n i) d.name) (taken n lt) ∙ more.0)
    where
      out : (b : Bool) → not b ≡ true → b ≡ false
      out true h = sym h
      out false h = refl

  pub can_be_first : (place : ℕ) (k : Kept) → slice_get p.steps place ≡ Some k → next_in p counts place ≡ true → (r : Ranked p place k) → GoesFirst p counts c k r.rank → CanBeFirst p w c k
  can_be_first place k here next r (IsOwnStep none (inl easy)) told d walk took settled =
      settle_holds.easy (walk_of p told) w k walk (own_next p q plan w counts c at told place k here next none) (easy_too k easy) settled
  can_be_first place k here next r (IsOwnStep none (inr spent)) told d walk took settled =
      settle_holds.alone (walk_of p told) w k c d walk (own_next p q plan w counts c at told place k here next none) (quiet told k.node spent) at.ran took settled
  can_be_first place k here next r (IsIdleStep m is idle) told d walk took settled =
      let from = stepped c k.node k.step d took in
      let lt = in_count k.node from.from from.at in
      let came = came_so p w counts c place k at r in
      let one : Some idle.turn ≡ Some r.turn = sym idle.found ∙ r.found in
      let same : idle.turn ≡ r.turn = cc in
      let fewer : count_of r.turn w < r.turn.recorded = subst (λ (t : Turn). count_of r.turn w < t.recorded) same (subst (λ n. n < idle.turn.recorded) came idle.fewer) in
      let of = of_turn r.turn k r.is in
      let delivers : r.turn.delivers ≡ Some m = of.1 ∙ is in
      let recorded = all_get (λ (t : Turn). t.recorded ≡ count_of t p.steps) p.turns r.rank.turn r.turn (turns_are p q plan).recorded r.found in
      let of_j : count_of r.turn p.steps ≡ how_many (is_of_kind k.node m.0 m.1) p.steps = kind_count r.turn m p.steps delivers ∙ ap (λ n. how_many (is_of_kind n m.0 m.1) p.steps) (sym of.0) in
      let of_w : count_of r.turn w ≡ how_many (is_of_kind k.node m.0 m.1) w = kind_count r.turn m w delivers ∙ ap (λ n. how_many (is_of_kind n m.0 m.1) w) (sym of.0) in
      let as_delivery : k ≡ delivery k.number k.node m.0 m.1 = (λ i. record { number = k.number; node = k.node; step = delivers_some k.step m is i }) in
      settle_holds.idle (walk_of p told) w k.number k.node m.0 m.1 c d walk at.ran
      (record { message = idle.message; there = idle.there; nothing = nothing_new k.node lt idle.message idle.none })
      (ap (step c k.node) (sym (delivers_some k.step m is)) ∙ took) (omega (arith, fewer, recorded, of_j, of_w))
      (subst (λ (x : Kept). IsSettled (walk_of p told) (w ++ x ∷ [])) as_delivery settled)

-- the first step that was found
pub is_first : (p : Plan) (q : Question) (counts : List ℕ) (c : Cluster) (place : ℕ) → IsPlan p q → next_in p counts place ≡ true → CanGoFirst p counts c place → IsFirst p counts c place
is_first p q counts c place plan next can = record {
  next = next;
  first = λ w k at here. go w k at here (ranked p q plan place k here);
}
  where
    go : (w : List Kept) (k : Kept) → IsAt p w counts c → slice_get p.steps place ≡ Some k → Ranked p place k → CanBeFirst p w c k
    go w k at here r =
        let one : Some can.step ≡ Some k = sym can.at ∙ here in
        let same : can.step ≡ k = cc in
        let two : Some can.rank ≡ Some r.rank = sym can.at_rank ∙ r.at in
        let rank : can.rank ≡ r.rank = cc in
        can_be_first p q plan w counts c at place k here next r (goes same rank)
      where
        goes : can.step ≡ k → can.rank ≡ r.rank → GoesFirst p counts c k r.rank
        goes same rank = subst (λ (x : Kept). GoesFirst p counts c x r.rank) same (subst (GoesFirst p counts c can.step) rank can.goes)
