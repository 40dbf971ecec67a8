-- Where nothing can come: what came is all that can be made to come.
use Rattle.std.proofs.Common.{◌≡◌, ◌⊎◌, inl, inr, ℕ, zero, suc, ◌<◌, ◌≤◌, List, length, take}
use Rattle.std.proofs.Common.{slice_index, refl, ◌∙◌, subst, arith}
use Rattle.std.specs.List.{Contains}
use Rattle.std.proofs.lemmas.Bool.{cases_lt}
use Rattle.std.proofs.lemmas.List.{get_or_default}
use Rattle.event_order.specs.declared.logged.Logged.{Logged}
use Rattle.event_order.specs.Ordering.{node_at, CanCome, IsBegun, IsOrder, IsStuckAt, HasNodes}
use Rattle.event_order.specs.Walks.{IsHead, IsLeast, IsStopped}
use Rattle.event_order.proofs.Came.{in_beginning}

module _ (events : List Logged) (came heads : List ℕ) (nodes : HasNodes (length heads) events) (stopped : IsStopped events came heads) where
  head_at : (q : ℕ) → q < length events → IsHead events came (node_at events q) (slice_index heads (node_at events q))
  head_at q there = stopped.next (node_at events q) (nodes q there)

  -- what can come after events that all came, came too
  one_more : (before : List ℕ) → ((q : ℕ) → Contains before q → Contains came q) → (q : ℕ) → CanCome events before q → Contains came q
  one_more before all q can = go (cases_lt q (slice_index heads (node_at events q)))
    where
      go : (q < slice_index heads (node_at events q)) ⊎ (slice_index heads (node_at events q) ≤ q) → Contains came q
      go (inl h) = (head_at q can.there).low q h refl
      go (inr h) = absurd (stopped.none q (record {
        there = can.there;
        new = (head_at q can.there).high q h can.there refl;
        turn = λ earlier low same. all earlier (can.turn earlier low same);
        sent = λ m waits. let was = can.sent m waits in (was.0, all was.0 was.1, was.2);
      }))

  so_far : (order : List ℕ) → IsBegun events order → (n : ℕ) → n ≤ length order → (j : ℕ) → j < n → Contains came (slice_index order j)
  so_far order begun zero within j low = absurd (omega arith)
  so_far order begun (suc n) within j low = go (so_far order begun n (omega arith)) (cases_lt j n)
    where
      before : ((j : ℕ) → j < n → Contains came (slice_index order j)) → (q : ℕ) → Contains (take n order) q → Contains came q
      before earlier q h = let at = in_beginning n order q (omega arith) h in subst (λ x. Contains came x) at.2 (earlier at.0 at.1)

      go : ((j : ℕ) → j < n → Contains came (slice_index order j)) → (j < n) ⊎ (n ≤ j) → Contains came (slice_index order j)
      go earlier (inl h) = earlier j h
      go earlier (inr h) = let e : n ≡ j = omega arith in subst (λ k. Contains came (slice_index order k)) e
          (one_more (take n order) (before earlier) (slice_index order n) (begun.each n (omega arith)))

  pub no_more : (order : List ℕ) → IsBegun events order → (q : ℕ) → Contains order q → Contains came q
  no_more order begun q (k, low, is) = subst (λ x. Contains came x) (get_or_default order k 0 q low ∙ is)
      (so_far order begun (length order) (omega arith) k low)

  low_came : (least : ℕ) → IsLeast (length events) heads least → (q : ℕ) → q < least → Contains came q
  low_came least is q low = (head_at q there).low q (go (cases_lt (slice_index heads (node_at events q)) (length events))) refl
    where
      there : q < length events
      there = let h = is.within in omega arith

      go : (slice_index heads (node_at events q) < length events) ⊎ (length events ≤ slice_index heads (node_at events q)) → q < slice_index heads (node_at events q)
      go (inl h) = let l = is.first (node_at events q) (nodes q there) h in omega arith
      go (inr h) = omega arith

  pub is_order : (least : ℕ) → IsLeast (length events) heads least → length events ≤ least → IsOrder events came
  is_order least is none = record {
    begun = stopped.begun;
    all = λ q there. low_came least is q (omega arith);
  }

  pub is_stuck : (least : ℕ) → IsLeast (length events) heads least → least < length events → IsStuckAt events least
  is_stuck least is there = record {
    there = there;
    never = λ order begun h. never (is.among there) (no_more order begun least h);
    first = λ q low. (came, stopped.begun, low_came least is q low);
  }
    where
      never : (j : ℕ) × (j < length heads) × (slice_index heads j ≡ least) → Contains came least → ⊥
      never (j, low, at) h =
          let head : IsHead events came j least = subst (λ n. IsHead events came j n) at (stopped.next j low) in
          head.high least (omega arith) there (head.here there) h
