-- What comes again stays within what may.
use Rattle.std.proofs.Common.{◌≡◌, ◌⊎◌, inl, inr, ℕ, ◌+◌, ◌-◌, ◌<◌, ◌≤◌, ◌==◌, ◌&&◌, nat_lt, Bool, true, false, cond, List, [], ◌∷◌, ◌++◌, filter, length, length-append, take, slice_get, Option, Some, None, refl, sym, ap, ◌∙◌, subst, true≢false, arith}
use Rattle.std.proofs.lemmas.Bool.{cases_lt, eqb-true, lt-ltb, ltb-true}
use Rattle.std.specs.List.{AllByRecursion}
use Rattle.journal_core.specs.Journals.{Kept}
use Rattle.bench_core.specs.Clusters.{Cluster}
use Rattle.network_rules.specs.declared.turn.Turn.{Turn}
use Rattle.explore_network.specs.Plans.{IsPlan, Plan}
use Rattle.explore_network.specs.Questions.{Question}
use Rattle.explore_network.specs.Turns.{count_of}
use Rattle.network_rules.specs.Turns.{extra, is_next_by, is_of}
use Rattle.explore_network.specs.Walks.{next_in, IsAt, IsWithin}
use Rattle.network_rules.proofs.Lookups.{all_get}
use Rattle.explore_network.proofs.AllTurns.{are_turns, AreTurns}
use Rattle.explore_network.proofs.Nth.{parted}
use Rattle.explore_network.proofs.Ranked.{next_is, ranked, Ranked}
use Rattle.explore_network.proofs.Sums.{count_push, extra_is, once, one, total, total_le, total_sum}
use Rattle.network_rules.proofs.Tests.{both_true}
use Rattle.explore_network.proofs.TurnKinds.{named_steps}

-- where nothing came
pub none_within : (p : Plan) → IsWithin p []
none_within p = record {
  again = (let is = extra_is p.turns [] [] in let none = all_none p.turns in omega (arith, is, none));
  twice = each p.turns;
}
  where
    all_none : (ts : List Turn) → total (λ t. count_of t [] - t.recorded) ts ≡ 0
    all_none [] = refl
    all_none (t ∷ ts) = let rest = all_none ts in omega (arith, rest)

    each : (ts : List Turn) → AllByRecursion (λ (t : Turn). count_of t [] - t.recorded ≤ t.recorded) ts
    each [] = tt
    each (t ∷ ts) = (omega arith, each ts)

-- a step may come of a turn of which no more came than was recorded, or once more, where that may be
pub record MayAgain (recorded count : ℕ) (more : Bool) : Type 0 where
  pub twice : count - recorded < recorded
  pub again : more ≡ true

not_lt : (a b : ℕ) → nat_lt a b ≡ false → b ≤ a
not_lt a b h = go (cases_lt a b)
  where
    go : (a < b) ⊎ (b ≤ a) → b ≤ a
    go (inl lt) = absurd (true≢false (sym (lt-ltb a b lt) ∙ h))
    go (inr le) = le

may_come : (delivers : Option (ℕ × ℕ)) (recorded before count : ℕ) (more : Bool) → before < recorded → is_next_by delivers recorded before count more ≡ true →
    (count < recorded) ⊎ MayAgain recorded count more
may_come None recorded before count more lt h = inl (let same = eqb-true before count h in omega (arith, same, lt))
may_come (Some m) recorded before count more lt h = go (nat_lt count recorded) refl h
  where
    go : (b : Bool) → nat_lt count recorded ≡ b → cond b (before == count) ((before == 0) && (nat_lt (count - recorded) recorded && more)) ≡ true →
        (count < recorded) ⊎ MayAgain recorded count more
    go true is h = inl (ltb-true count recorded is)
    go false is h =
        let rest = both_true (nat_lt (count - recorded) recorded) more (both_true (before == 0) _ h).1 in
        inr (record { twice = ltb-true (count - recorded) recorded rest.0; again = rest.1 })

module _ (p : Plan) (q : Question) (plan : IsPlan p q) (w : List Kept) (counts : List ℕ) (c : Cluster) (at : IsAt p w counts c) (place : ℕ) (k : Kept)
    (here : slice_get p.steps place ≡ Some k) (next : next_in p counts place ≡ true) where
  are : AreTurns p.steps p.turns
  are = subst (AreTurns p.steps) (sym plan.turns) (are_turns p.steps p.count)

  r : Ranked p place k
  r = ranked p q plan place k here

  recorded : r.turn.recorded ≡ count_of r.turn p.steps
  recorded = all_get (λ (t : Turn). t.recorded ≡ count_of t p.steps) p.turns r.rank.turn r.turn are.recorded r.found

  before : count_of r.turn (take place p.steps) < r.turn.recorded
  before =
      let parts = parted (is_of r.turn) p.steps place k here r.is in
      let long = ap length parts.1 ∙ length-append (filter (is_of r.turn) (take place p.steps)) (k ∷ parts.0) in
      omega (arith, long, recorded)

  comes : (count_of r.turn w < r.turn.recorded) ⊎ MayAgain r.turn.recorded (count_of r.turn w) (nat_lt (extra p.turns counts 0) p.again)
  comes = may_come r.turn.delivers r.turn.recorded (count_of r.turn (take place p.steps)) (count_of r.turn w) (nat_lt (extra p.turns counts 0) p.again) before
      (sym (next_is p w counts c place k at r) ∙ next)

  -- a turn that has the step is that of the step
  same_count : (t : Turn) → is_of t k ≡ true → (ks : List Kept) → count_of t ks ≡ count_of r.turn ks
  same_count t is ks = sym (named_steps t k is ks) ∙ named_steps r.turn k r.is ks

  twice_one : (t : Turn) → t.recorded ≡ count_of t p.steps → count_of t w - t.recorded ≤ t.recorded → count_of t (w ++ k ∷ []) - t.recorded ≤ t.recorded
  twice_one t rec so_far = go (is_of t k) refl comes
    where
      go : (b : Bool) → is_of t k ≡ b → (count_of r.turn w < r.turn.recorded) ⊎ MayAgain r.turn.recorded (count_of r.turn w) (nat_lt (extra p.turns counts 0) p.again) →
          count_of t (w ++ k ∷ []) - t.recorded ≤ t.recorded
      go false out come = let push = count_push t k w in let none = ap one out in omega (arith, push, none, so_far)
      go true is (inl lt) =
          let push = count_push t k w in
          let single = ap one is in
          let same = same_count t is w in
          let all = same_count t is p.steps in
          omega (arith, push, single, same, all, rec, recorded, lt)
      go true is (inr may) =
          let push = count_push t k w in
          let single = ap one is in
          let same = same_count t is w in
          let all = same_count t is p.steps in
          let twice = may.twice in
          omega (arith, push, single, same, all, rec, recorded, twice)

  all_twice : (ts : List Turn) → AllByRecursion (λ (t : Turn). t.recorded ≡ count_of t p.steps) ts → AllByRecursion (λ (t : Turn). count_of t w - t.recorded ≤ t.recorded) ts →
      AllByRecursion (λ (t : Turn). count_of t (w ++ k ∷ []) - t.recorded ≤ t.recorded) ts
  all_twice [] rec so_far = tt
  all_twice (t ∷ ts) rec so_far = (twice_one t rec.0 so_far.0, all_twice ts rec.1 so_far.1)

  -- where no more came than was recorded, nothing comes again
  first_one : count_of r.turn w < r.turn.recorded → (t : Turn) → t.recorded ≡ count_of t p.steps → count_of t (w ++ k ∷ []) - t.recorded ≤ count_of t w - t.recorded
  first_one lt t rec = go (is_of t k) refl
    where
      go : (b : Bool) → is_of t k ≡ b → count_of t (w ++ k ∷ []) - t.recorded ≤ count_of t w - t.recorded
      go false out = let push = count_push t k w in let none = ap one out in omega (arith, push, none)
      go true is =
          let push = count_push t k w in
          let single = ap one is in
          let same = same_count t is w in
          let all = same_count t is p.steps in
          omega (arith, push, single, same, all, rec, recorded, lt)

  all_first : count_of r.turn w < r.turn.recorded → (ts : List Turn) → AllByRecursion (λ (t : Turn). t.recorded ≡ count_of t p.steps) ts →
      AllByRecursion (λ (t : Turn). count_of t (w ++ k ∷ []) - t.recorded ≤ count_of t w - t.recorded) ts
  all_first lt [] rec = tt
  all_first lt (t ∷ ts) rec = (first_one lt t rec.0, all_first lt ts rec.1)

  one_more : (ts : List Turn) → AllByRecursion (λ (t : Turn). count_of t (w ++ k ∷ []) - t.recorded ≤ (count_of t w - t.recorded) + one (is_of t k)) ts
  one_more [] = tt
  one_more (t ∷ ts) = ((let push = count_push t k w in omega (arith, push)), one_more ts)

  few_again : (count_of r.turn w < r.turn.recorded) ⊎ MayAgain r.turn.recorded (count_of r.turn w) (nat_lt (extra p.turns counts 0) p.again) →
      total (λ t. count_of t (w ++ k ∷ []) - t.recorded) p.turns ≤ p.again
  few_again (inl lt) =
      let le = total_le (λ t. count_of t (w ++ k ∷ []) - t.recorded) (λ t. count_of t w - t.recorded) p.turns (all_first lt p.turns are.recorded) in
      let is = extra_is p.turns w [] in
      let most = at.within.again in
      omega (arith, le, is, most)
  few_again (inr may) =
      let le = total_le (λ t. count_of t (w ++ k ∷ []) - t.recorded) (λ t. (count_of t w - t.recorded) + one (is_of t k)) p.turns (one_more p.turns) in
      let sum = total_sum (λ t. (count_of t w - t.recorded) + one (is_of t k)) (λ t. count_of t w - t.recorded) (λ t. one (is_of t k)) p.turns (λ t. refl) in
      let single = once p.turns k are.apart in
      let is = ap (λ (l : List ℕ). extra p.turns l 0) at.counted ∙ extra_is p.turns w [] in
      let lt = ltb-true (extra p.turns counts 0) p.again may.again in
      omega (arith, le, sum, single, is, lt)

  pub within_more : IsWithin p (w ++ k ∷ [])
  within_more = record {
    again = (let is = extra_is p.turns (w ++ k ∷ []) [] in let most = few_again comes in omega (arith, is, most));
    twice = all_twice p.turns are.recorded at.within.twice;
  }
