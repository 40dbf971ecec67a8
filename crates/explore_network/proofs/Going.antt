-- One step further: which steps may come next, and where the walk stands behind them.
use Rattle.std.proofs.Common.{◌≡◌, ℕ, ◌==◌, ◌&&◌, not, nat_lt, Bool, true, false, cond, List, [], ◌∷◌, ◌++◌, length, take, slice_get, Option, Some, None, Ok, refl, sym, ap, ◌∙◌, append_assoc, append-nil, true≢false}
use Rattle.std.proofs.lemmas.Bool.{eqb-true, eq-eqb}
use Rattle.std.proofs.lemmas.List.Elements.{filter-append}
use Rattle.journal_core.specs.Journals.{Kept}
use Rattle.bench_core.specs.Clusters.{Cluster, opening_of, step}
use Rattle.bench_core.specs.Runs.{then_runs}
use Rattle.bench_core.proofs.Runs.{runs_append}
use Rattle.network_core.specs.NetworkRuns.{is_delivery, is_ordered, ordered}
use Rattle.network_core.specs.Settling.{IsNext}
use Rattle.explore_network.specs.Plans.{walk_of, IsPlan, Plan}
use Rattle.explore_network.specs.Questions.{Question}
use Rattle.explore_network.specs.Turns.{count_of, counts_of}
use Rattle.network_rules.specs.Turns.{delivery_of, extra, is_next_by}
use Rattle.explore_network.specs.Walks.{next_in, steps_at, with_step, IsAt}
use Rattle.explore_network.proofs.Nth.{parted, same_parts}
use Rattle.explore_network.proofs.Ranked.{next_is, ranked, Ranked}
use Rattle.explore_network.proofs.Within.{within_more}
use Rattle.network_rules.proofs.Tests.{both_true}
use Rattle.explore_network.proofs.TurnKinds.{delivers_none, delivers_some, of_turn, own_count}

pub ordered_in : (k : Kept) → is_delivery k.step ≡ false → is_ordered k.node k ≡ true
ordered_in k own = λ i. eq-eqb k.node k.node refl i && not (own i)

-- of a node of which this is no own step, the same were taken
pub undone : (w : List Kept) (k : Kept) (n : ℕ) → is_ordered n k ≡ false → ordered (w ++ k ∷ []) n ≡ ordered w n
undone w k n out = filter-append (is_ordered n) w (k ∷ []) ∙ ap (λ b. ordered w n ++ cond b (k ∷ []) []) out ∙ append-nil (ordered w n)

pub done : (w : List Kept) (k : Kept) (n : ℕ) → is_ordered n k ≡ true → ordered (w ++ k ∷ []) n ≡ ordered w n ++ k ∷ []
done w k n is = filter-append (is_ordered n) w (k ∷ []) ∙ ap (λ b. ordered w n ++ cond b (k ∷ []) []) is

-- a path that is one step longer

pub steps_push : (j : List Kept) (path : List ℕ) (place : ℕ) (k : Kept) → slice_get j place ≡ Some k → steps_at j (path ++ place ∷ []) ≡ steps_at j path ++ k ∷ []
steps_push j [] place k at = ap (λ o. with_step o []) at
steps_push j (x ∷ path) place k at = ap (with_step (slice_get j x)) (steps_push j path place k at) ∙ behind (slice_get j x) (steps_at j path)
  where
    behind : (o : Option Kept) (ks : List Kept) → with_step o (ks ++ k ∷ []) ≡ with_step o ks ++ k ∷ []
    behind None ks = refl
    behind (Some x) ks = refl

module _ (p : Plan) (q : Question) (plan : IsPlan p q) (w : List Kept) (counts : List ℕ) (c : Cluster) (at : IsAt p w counts c) where
  -- an own step that may come next is the next of its node
  pub own_next : (told : Cluster → Bool) (place : ℕ) (k : Kept) → slice_get p.steps place ≡ Some k → next_in p counts place ≡ true → delivery_of k.step ≡ None → IsNext (walk_of p told) w k
  own_next told place k here next own = (there.0, there.1 ∙ ap (λ (l : List Kept). l ++ k ∷ there.0) first)
    where
      r : Ranked p place k
      r = ranked p q plan place k here

      of : (k.node ≡ r.turn.node) × (r.turn.delivers ≡ delivery_of k.step)
      of = of_turn r.turn k r.is

      mine : r.turn.delivers ≡ None
      mine = of.1 ∙ own

      same : count_of r.turn (take place p.steps) ≡ count_of r.turn w
      same = eqb-true _ _ (sym (ap (λ o. is_next_by o r.turn.recorded (count_of r.turn (take place p.steps)) (count_of r.turn w) (nat_lt (extra p.turns counts 0) p.again)) mine)
          ∙ sym (next_is p w counts c place k at r) ∙ next)

      long : length (ordered (take place p.steps) k.node) ≡ length (ordered w k.node)
      long = ap (λ n. length (ordered (take place p.steps) n)) of.0 ∙ sym (own_count r.turn (take place p.steps) mine) ∙ same ∙ own_count r.turn w mine
          ∙ ap (λ n. length (ordered w n)) (sym of.0)

      there : (ys : List Kept) × (ordered p.steps k.node ≡ ordered (take place p.steps) k.node ++ k ∷ ys)
      there = parted (is_ordered k.node) p.steps place k here (ordered_in k (delivers_none k.step own))

      first : ordered (take place p.steps) k.node ≡ ordered w k.node
      first = (same_parts (ordered (take place p.steps) k.node) (ordered w k.node) (k ∷ there.0) (at.own k.node).0 (sym there.1 ∙ (at.own k.node).1) long).first

  -- where the walk stands behind it
  pub at_more : (place : ℕ) (k : Kept) (d : Cluster) (new : List ℕ) → slice_get p.steps place ≡ Some k → next_in p counts place ≡ true → step c k.node k.step ≡ Ok d →
      new ≡ counts_of p.turns (w ++ k ∷ []) → IsAt p (w ++ k ∷ []) new d
  at_more place k d new here next took counted = record {
    ran = runs_append (Ok (opening_of p.limits p.count)) w (k ∷ []) ∙ ap (λ r. then_runs r (k ∷ [])) at.ran ∙ ap (λ r. then_runs r []) took;
    counted = counted;
    along = (at.along.0 ++ place ∷ [], ap (λ (l : List Kept). l ++ k ∷ []) at.along.1 ∙ sym (steps_push p.steps at.along.0 place k here));
    own = λ n. by_node n (is_ordered n k) refl;
    within = within_more p q plan w counts c at place k here next;
  }
    where
      by_node : (n : ℕ) (b : Bool) → is_ordered n k ≡ b → (later : List Kept) × (ordered p.steps n ≡ ordered (w ++ k ∷ []) n ++ later)
      by_node n false out = ((at.own n).0, (at.own n).1 ∙ ap (λ (l : List Kept). l ++ (at.own n).0) (sym (undone w k n out)))
      by_node n true is = own (delivery_of k.step) refl
        where
          both : (k.node ≡ n) × (not (is_delivery k.step) ≡ true)
          both = let b = both_true (k.node == n) (not (is_delivery k.step)) is in (eqb-true k.node n b.0, b.1)

          own : (o : Option (ℕ × ℕ)) → delivery_of k.step ≡ o → (later : List Kept) × (ordered p.steps n ≡ ordered (w ++ k ∷ []) n ++ later)
          own (Some m) h = absurd (true≢false (sym both.1 ∙ ap not (ap is_delivery (delivers_some k.step m h))))
          own None h =
              let next_one = own_next (λ c. true) place k here next h in (
                next_one.0,
                ap (ordered p.steps) (sym both.0) ∙ next_one.1 ∙ ap (λ n. ordered w n ++ k ∷ next_one.0) both.0 ∙ sym (append_assoc (ordered w n) (k ∷ []) next_one.0)
                    ∙ ap (λ (l : List Kept). l ++ next_one.0) (sym (done w k n is)),
              )
