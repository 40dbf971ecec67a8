-- The laws of orders.
use Rattle.std.proofs.Common.{◌≡◌, ◌⊎◌, inl, inr, ℕ, zero, suc, ◌<◌, ◌≤◌, List, [], ◌∷◌, ◌++◌, length, take}
use Rattle.std.proofs.Common.{slice_index, Some, refl, sym, ap, ◌∙◌, subst, arith, add-one}
use Rattle.std.specs.List.{Contains}
use Rattle.std.proofs.lemmas.Bool.{cases_lt, cases_order}
use Rattle.std.proofs.lemmas.List.{get_or_default, take_all, take_more}
use Rattle.event_order.specs.declared.logged.Logged.{Logged}
use Rattle.event_order.specs.declared.order_fault.OrderFault.TheVariants.{NeverSent, Circle}
use Rattle.event_order.specs.Ordering.{node_at, waits_at, sends_at, CanCome, IsOrder, IsNearest, IsFaultOf}
use Rattle.event_order.specs.Laws.{IsInterleaving, InterleavingLaw, NearestLaw, OneNearestLaw, NoOrderLaw}
use Rattle.event_order.proofs.Came.{in_beginning, beginning_has}

-- the place in the list of what it contains
place_of : (order : List ℕ) (q : ℕ) → Contains order q → (j : ℕ) × (j < length order) × (slice_index order j ≡ q)
place_of order q (j, low, is) = (j, low, get_or_default order j 0 q low ∙ is)

-- an order is an interleaving

module _ (events : List Logged) (order : List ℕ) (is : IsOrder events order) where
  once : (j k : ℕ) → j < k → k < length order → slice_index order j ≡ slice_index order k → ⊥
  once j k before low same = (is.begun.each k low).new (subst (λ q. Contains (take k order) q) same (beginning_has k order j (omega arith) before))

  turns : (j k : ℕ) → j < k → k < length order → node_at events (slice_index order j) ≡ node_at events (slice_index order k) →
      slice_index order j < slice_index order k
  turns j k before low same = go (cases_order (slice_index order j) (slice_index order k))
    where
      high : ℕ
      high = slice_index order k

      earlier : slice_index order k < slice_index order j → ⊥
      earlier h =
          let came : Contains (take j order) (slice_index order k) = (is.begun.each j (omega arith)).turn (slice_index order k) h (sym same) in
          let at = in_beginning j order (slice_index order k) (omega arith) came in
          once at.0 k (let l = at.1 in omega arith) low at.2

      go : (slice_index order j ≡ slice_index order k) ⊎ ((slice_index order j < slice_index order k) ⊎ (slice_index order k < slice_index order j)) →
          slice_index order j < slice_index order k
      go (inl e) = absurd (once j k before low e)
      go (inr (inl h)) = h
      go (inr (inr h)) = absurd (earlier h)

  behind : (k message : ℕ) → k < length order → waits_at events (slice_index order k) ≡ Some message →
      (j : ℕ) × (j < k) × (sends_at events (slice_index order j) ≡ Some message)
  behind k message low waits =
      let was = (is.begun.each k low).sent message waits in
      let at = in_beginning k order was.0 (omega arith) was.1 in
      (at.0, at.1, ap (sends_at events) at.2 ∙ was.2)

  pub is_interleaving : IsInterleaving events order
  is_interleaving = record {
    all = is.all;
    within = λ k low. (is.begun.each k low).there;
    once = once;
    turns = turns;
    behind = behind;
  }

-- an interleaving is an order

module _ (events : List Logged) (order : List ℕ) (is : IsInterleaving events order) where
  -- what comes before an event of its node stands before it
  earlier_in : (k earlier : ℕ) → k < length order → earlier < slice_index order k → node_at events earlier ≡ node_at events (slice_index order k) →
      Contains (take k order) earlier
  earlier_in k earlier low before same = go at (cases_order at.0 k)
    where
      at : (j : ℕ) × (j < length order) × (slice_index order j ≡ earlier)
      at = place_of order earlier (is.all earlier (let h = is.within k low in omega arith))

      go : (at : (j : ℕ) × (j < length order) × (slice_index order j ≡ earlier)) → (at.0 ≡ k) ⊎ ((at.0 < k) ⊎ (k < at.0)) → Contains (take k order) earlier
      go (j, there, here) (inl e) = absurd (let h : slice_index order k ≡ earlier = ap (slice_index order) (sym e) ∙ here in omega arith)
      go (j, there, here) (inr (inl h)) = subst (λ q. Contains (take k order) q) here (beginning_has k order j (omega arith) h)
      go (j, there, here) (inr (inr h)) = absurd (let above = is.turns k j h there (sym same ∙ ap (node_at events) (sym here)) in omega arith)

  each : (k : ℕ) → k < length order → CanCome events (take k order) (slice_index order k)
  each k low = record {
    there = is.within k low;
    new = λ h. let at = in_beginning k order (slice_index order k) (omega arith) h in is.once at.0 k at.1 low at.2;
    turn = λ earlier before same. earlier_in k earlier low before same;
    sent = λ message waits. let at = is.behind k message low waits in (slice_index order at.0, beginning_has k order at.0 (omega arith) at.1, at.2);
  }

  pub is_order : IsOrder events order
  is_order = record { begun = record { each = each }; all = is.all }

-- the nearest order

module _ (events : List Logged) (nearest other : List ℕ) (order : IsOrder events nearest) (first : IsNearest events nearest) (is : IsOrder events other) where
  -- where it goes on, the other does
  goes_on : (k : ℕ) → k < length nearest → take k nearest ≡ take k other → k < length other
  goes_on k low same = go (cases_lt k (length other))
    where
      last : length other ≤ k → ⊥
      last h = (order.begun.each k low).new (subst (λ l. Contains l (slice_index nearest k)) (sym (same ∙ take_all k other h))
          (is.all (slice_index nearest k) (order.begun.each k low).there))

      go : (k < length other) ⊎ (length other ≤ k) → k < length other
      go (inl h) = h
      go (inr h) = absurd (last h)

  pub nearest_first : (k : ℕ) → k < length nearest → take k nearest ≡ take k other → slice_index nearest k ≤ slice_index other k
  nearest_first k low same = go (cases_lt (slice_index other k) (slice_index nearest k))
    where
      go : (slice_index other k < slice_index nearest k) ⊎ (slice_index nearest k ≤ slice_index other k) → slice_index nearest k ≤ slice_index other k
      go (inl h) = absurd (first.first k (slice_index other k) low h
          (subst (λ l. CanCome events l (slice_index other k)) (sym same) (is.begun.each k (goes_on k low same))))
      go (inr h) = h

module _ (events : List Logged) (a b : List ℕ) (order_a : IsOrder events a) (first_a : IsNearest events a) (order_b : IsOrder events b) (first_b : IsNearest events b) where
  same_upto : (k : ℕ) → k ≤ length a → take k a ≡ take k b
  same_upto zero within = refl
  same_upto (suc k) within = go (same_upto k (omega arith))
    where
      go : take k a ≡ take k b → take (suc k) a ≡ take (suc k) b
      go same =
          let low : k < length a = omega arith in
          let low_b : k < length b = goes_on events a b order_a first_a order_b k low same in
          let up = nearest_first events a b order_a first_a order_b k low same in
          let down = nearest_first events b a order_b first_b order_a k low_b (sym same) in
          let e : slice_index a k ≡ slice_index b k = omega arith in
          let at_a : take (suc k) a ≡ take k a ++ slice_index a k ∷ [] = rw add-one at (take_more a k 0 low) in
          let at_b : take (suc k) b ≡ take k b ++ slice_index b k ∷ [] = rw add-one at (take_more b k 0 low_b) in
          at_a ∙ ap (λ l. l ++ slice_index a k ∷ []) same ∙ ap (λ n. take k b ++ n ∷ []) e ∙ sym at_b

  pub one_nearest : length b ≤ length a → a ≡ b
  one_nearest long = sym (take_all (length a) a (omega arith)) ∙ same_upto (length a) (omega arith) ∙ take_all (length a) b long

pub interleaving_law : InterleavingLaw
interleaving_law = record { is = is_interleaving; only = is_order }

pub nearest_law : NearestLaw
nearest_law events nearest other order first is = nearest_first events nearest other order first is

pub one_nearest_law : OneNearestLaw
one_nearest_law events a b order_a first_a order_b first_b = go (cases_lt (length a) (length b))
  where
    go : (length a < length b) ⊎ (length b ≤ length a) → a ≡ b
    go (inl h) = sym (one_nearest events b a order_b first_b order_a first_a (omega arith))
    go (inr h) = one_nearest events a b order_a first_a order_b first_b h

pub no_order_law : NoOrderLaw
no_order_law = record { never_sent = never_sent; circle = circle }
  where
    never_sent : (events : List Logged) (at : ℕ) → IsFaultOf events (NeverSent at) → (order : List ℕ) → IsOrder events order → ⊥
    never_sent events at (once, fault) order is =
        let message = fault.waits.0 in
        let here = place_of order at (is.all at fault.there) in
        let was = (is.begun.each here.0 here.1).sent message (ap (waits_at events) here.2 ∙ fault.waits.1) in
        fault.waits.2 (was.0, was.2)

    circle : (events : List Logged) (at : ℕ) → IsFaultOf events (Circle at) → (order : List ℕ) → IsOrder events order → ⊥
    circle events at (once, sent, fault) order is = fault.never order is.begun (is.all at fault.there)
