-- One more step of a future is gathered.
use Rattle.std.proofs.Common.{◌≡◌, ◌⊎◌, inl, inr, ℕ, ◌<◌, ◌≤◌, ◌==◌, ◌&&◌, ◌||◌, nat_lt, nat_le, Bool, true, false, cond, if◌then◌else◌}
use Rattle.std.proofs.Common.{List, [], ◌∷◌, ◌++◌, length, Option, Some, None, refl, sym, ap, ◌∙◌, subst, true≢false, arith}
use Rattle.std.specs.List.{AllByRecursion as Each, filter, list_any}
use Rattle.std.proofs.lemmas.Bool.{cases_eq, cases_lt, eqb-true, eq-eqb, and_parts, or_cases, or_right, lt-ltb, le-ltb, ltb-true, le-leb, lt-leb}
use Rattle.std.proofs.lemmas.Bool.{leb-true}
use Rattle.journal_core.specs.Numbers.{place_of}
use Rattle.journal_core.specs.Journals.{Kept, NumbersRise, AreInCausalOrder, delivers_from, is_consequence, find_number, first_number, numbers}
use Rattle.node_core.specs.Operations.{delivers}
use Rattle.journal_core.specs.Futures.{Follows, Next}
use Rattle.journal_core.specs.Causes.{Causes, IsIndexOf, AreKnown, all_at, delivered}
use Rattle.journal_core.specs.Bounds.{is_above, bound_at, reaches, lowered, is_before, IsNext, IsGatheredUpTo}
use Rattle.journal_core.proofs.NumberLists.{place_below}
use Rattle.journal_core.proofs.Each.{each_find, finds_all, find_itself, none_first}
use Rattle.journal_core.proofs.Senders.{later_only}
use Rattle.journal_core.proofs.Consequences.{delivers_is, is_from, never_from, from_message}
use Rattle.journal_core.proofs.StepKinds.{filter_agree, all_same, same_test, both_true, for_each, by_itself, one_step, in_list, from_list, first_of}
use Rattle.journal_core.proofs.StepKinds.{first_at_most}
use Rattle.journal_core.proofs.Lowered.{IsLower, Lowers, lowers}

-- what delivers the message of a step

delivered_at : (ks : List Kept) (k : Kept) (c : Causes) → IsIndexOf ks ks k.node c → (o : Option ℕ) →
    ((p : ℕ) → o ≡ Some p → p < length c.deliveries) → all_at c.deliveries o ≡ numbers (filter (λ j. is_from o k.node (delivers j.step)) ks)
delivered_at ks k c is None low = sym (nothing (delivers_none k.node) ks)
  where
    delivers_none : (node : ℕ) (j : Kept) → is_from None node (delivers j.step) ≡ false
    delivers_none node j = never_from node (delivers j.step)

    nothing : {test : Kept → Bool} → ((j : Kept) → test j ≡ false) → (ks : List Kept) → numbers (filter test ks) ≡ []
    nothing none [] = refl
    nothing none (j ∷ js) = rw (none j) (nothing none js)
delivered_at ks k c is (Some p) low =
    is.deliveries p (low p refl) ∙ ap numbers (sym (filter_agree _ _ ks (all_same _ _ (λ j. from_message p k.node (delivers j.step)) ks)))

pub delivered_is : (ks : List Kept) (n : ℕ) (k : Kept) (c : Causes) → NumbersRise 0 ks → find_number ks n ≡ Some k → IsIndexOf ks ks k.node c →
    delivered c.sent c.deliveries n ≡ numbers (filter (λ j. delivers_from ks j k) ks)
delivered_is ks n k c rises found is =
    delivered_at ks k c is (place_of c.sent n) (λ p at. let low = place_below n c.sent p at in let same = is.messages in omega arith)
    ∙ ap (λ (l : List ℕ). numbers (filter (λ j. is_from (place_of l n) k.node (delivers j.step)) ks)) is.sent
    ∙ ap numbers (sym (filter_agree _ _ ks (all_same _ _ (delivers_is ks n k rises found) ks)))

-- one step more

pub numbers_to : (f : Kept → Bool) (m : ℕ) (k : Kept) (a : ℕ) (ks : List Kept) → NumbersRise a ks → find_number ks m ≡ Some k → f k ≡ true →
    numbers (filter (λ j. f j && nat_lt j.number m) ks) ++ m ∷ [] ≡ numbers (filter (λ j. f j && nat_le j.number m) ks)
numbers_to f m k a [] rises found is = absurd (cc)
numbers_to f m k a (j ∷ ks) rises found is = go (j.number == m) refl found (λ h. numbers_to f m k j.number ks rises.1 h is)
  where
    past : (b : ℕ) (js : List Kept) → m ≤ b → NumbersRise b js → (numbers (filter (λ j. f j && nat_lt j.number m) js) ≡ []) ×
        (numbers (filter (λ j. f j && nat_le j.number m) js) ≡ [])
    past b [] h rises = (refl, refl)
    past b (x ∷ js) h rises =
        let first = rises.0 in
        let more = past x.number js (omega arith) rises.1 in
        (rw (le-ltb x.number m (omega arith), and_false (f x)) more.0, rw (lt-leb x.number m (omega arith), and_false (f x)) more.1)
      where
        and_false : (b : Bool) → (b && false) ≡ false
        and_false true = refl
        and_false false = refl

    later : find_number ks m ≡ Some k → j.number < m
    later h = let low = (each_find (λ i. (j.number < i.number) × (find_number ks i.number ≡ Some i)) ks m k (finds_all j.number ks rises.1) h).0 in
        let e = find_itself ks m k h in omega arith

    both : (b : Bool) → numbers (filter (λ j. f j && nat_lt j.number m) ks) ++ m ∷ [] ≡ numbers (filter (λ j. f j && nat_le j.number m) ks) →
        numbers (cond (b && true) (j ∷ filter (λ j. f j && nat_lt j.number m) ks) (filter (λ j. f j && nat_lt j.number m) ks)) ++ m ∷ [] ≡
        numbers (cond (b && true) (j ∷ filter (λ j. f j && nat_le j.number m) ks) (filter (λ j. f j && nat_le j.number m) ks))
    both true more = ap (λ (l : List ℕ). j.number ∷ l) more
    both false more = more

    go : (b : Bool) → (j.number == m) ≡ b → (if b then Some j else find_number ks m) ≡ Some k →
        (find_number ks m ≡ Some k → numbers (filter (λ j. f j && nat_lt j.number m) ks) ++ m ∷ [] ≡ numbers
        (filter (λ j. f j && nat_le j.number m) ks)) →
        numbers (cond (f j && nat_lt j.number m) (j ∷ filter (λ j. f j && nat_lt j.number m) ks)
        (filter (λ j. f j && nat_lt j.number m) ks)) ++ m ∷ [] ≡
        numbers (cond (f j && nat_le j.number m) (j ∷ filter (λ j. f j && nat_le j.number m) ks) (filter (λ j. f j && nat_le j.number m) ks))
    go true at h more =
        let e = eqb-true j.number m at in
        let same : j ≡ k = cc in
        let rest = past j.number ks (omega arith) rises.1 in
        let yes_f : f j ≡ true = ap f same ∙ is in
        rw (yes_f, le-ltb j.number m (omega arith), le-leb j.number m (omega arith))
        (ap (λ (l : List ℕ). l ++ m ∷ []) rest.0 ∙ ap (λ (x : ℕ). x ∷ []) (sym e) ∙ ap (λ (l : List ℕ). j.number ∷ l) (sym rest.1))
    go false at h more = let low = later h in rw (lt-ltb j.number m low, le-leb j.number m (omega arith)) (both (f j) (more h))

-- the steps that pass a test and are not after m, where what is next is the first after it
module _ (ks : List Kept) (m : ℕ) (test : Kept → Bool) (rises : NumbersRise 0 ks) where
  abbrev o : Option ℕ
  o = first_number (λ j. test j && nat_lt m j.number) ks

  pub up_to_next : (j : Kept) → find_number ks j.number ≡ Some j → j.number ≤ m → is_before o j.number ≡ true
  up_to_next j found low = go o refl
    where
      go : (p : Option ℕ) → o ≡ p → is_before p j.number ≡ true
      go None is = refl
      go (Some n) is =
          let h = first_of (λ j. Unit {0}) (λ j. test j && nat_lt m j.number) n ks (units ks) is in
          let above = ltb-true m h.0.number (and_parts (test h.0) _ h.3).1 in
          let e = h.1 in
          lt-ltb j.number n (omega arith)
        where
          units : (js : List Kept) → Each (λ j. Unit {0}) js
          units [] = tt
          units (j ∷ js) = (tt, units js)

  pub only_next : (j : Kept) → find_number ks j.number ≡ Some j → test j ≡ true → is_before o j.number ≡ true → j.number ≤ m
  only_next j found is before = go (cases_lt m j.number) o refl before
    where
      go : (m < j.number) ⊎ (j.number ≤ m) → (p : Option ℕ) → o ≡ p → is_before p j.number ≡ true → j.number ≤ m
      go (inr low) p at h = low
      go (inl high) None at h =
          absurd (true≢false (sym (both_true (test j) (nat_lt m j.number) is (lt-ltb m j.number high)) ∙ each_find
          (λ j. (test j && nat_lt m j.number) ≡ false) ks j.number j (none_first _ ks at) found))
      go (inl high) (Some n) at h =
          let low = first_at_most (λ j. test j && nat_lt m j.number) n j.number j 0 ks rises at found
          (both_true (test j) (nat_lt m j.number) is (lt-ltb m j.number high)) in
          let below_it = ltb-true j.number n h in
          absurd (omega arith)

-- one more step is gathered

module _ (ks : List Kept) (n : ℕ) (ns : List ℕ) (bs : List (Option ℕ)) (m : ℕ) (k : Kept) (order : AreInCausalOrder ks)
    (known : AreKnown (length bs) ks) (found : find_number ks m ≡ Some k)
    (sent : List ℕ) (sent_is : sent ≡ numbers (filter (λ j. delivers_from ks j k) ks)) (old : IsGatheredUpTo ks n ns bs (Some m)) where
  abbrev cs : List (Option ℕ)
  cs = lowered ks sent bs

  abbrev later : Option ℕ
  later = first_number (λ j. reaches cs j && nat_lt m j.number) ks

  change : Lowers ks sent bs cs
  change = lowers ks sent bs order.0 known

  number : k.number ≡ m
  number = find_itself ks m k found

  itself : find_number ks k.number ≡ Some k
  itself = by_itself ks m k order.0 found

  -- the step itself was reached
  here : reaches bs k ≡ true
  here =
      let h = old.upcoming in
      let one : Some h.0 ≡ Some k = sym h.1 ∙ found in
      let same : h.0 ≡ k = cc in
      subst (λ (j : Kept). reaches bs j ≡ true) same h.2

  abbrev IsSent : Kept → Type 0
  IsSent x = (d : Kept) × (find_number ks d.number ≡ Some d) × (is_consequence ks k d ≡ true) × (d.node ≡ x.node) × (d.number ≤ x.number)

  lower_sent : (x : Kept) → IsLower ks sent x → IsSent x
  lower_sent x h =
      let at = from_list (λ j. find_number ks j.number ≡ Some j) (λ j. delivers_from ks j k) h.0.number ks (for_each _ ks order.0 (λ j f. f))
      (ap (list_any (λ i. i == h.0.number)) (sym sent_is) ∙ h.2) in
      let same : at.0 ≡ h.0 = one_step ks at.0 h.0 at.2 h.1 at.1 in (
        h.0,
        h.1,
        or_right ((k.node == h.0.node) && nat_lt k.number h.0.number) _
            (subst (λ (j : Kept). delivers_from ks j k ≡ true) same at.3),
        h.3,
        h.4,
      )

  -- what is reached was, or comes after a delivery
  reached : (x : Kept) → reaches cs x ≡ true → (reaches bs x ≡ true) ⊎ IsSent x
  reached x h = elim (change.only x h) [ inl e ↦ inl e | inr e ↦ inr (lower_sent x e) ]

  after : (x : Kept) → IsSent x → m < x.number
  after x h = let low = later_only ks k h.0 order h.1 h.2 in let at = h.4 in let e = number in omega arith

  same_before : (x : Kept) → reaches cs x ≡ true → x.number ≤ m → reaches bs x ≡ true
  same_before x h low = elim (reached x h) [ inl e ↦ e | inr e ↦ absurd (let high = after x e in omega arith) ]

  gathered_step : ns ++ m ∷ [] ≡ numbers (filter (λ j. reaches cs j && is_before later j.number) ks)
  gathered_step =
      ap (λ (l : List ℕ). l ++ m ∷ []) old.gathered ∙ numbers_to (reaches bs) m k 0 ks order.0 found here
      ∙ ap numbers (filter_agree _ _ ks
      (for_each _ ks order.0
      (λ j f. same_test (reaches bs j && nat_le j.number m) (reaches cs j && is_before later j.number) (to j f) (from j f))))
    where
      to : (j : Kept) → find_number ks j.number ≡ Some j → (reaches bs j && nat_le j.number m) ≡ true →
          (reaches cs j && is_before later j.number) ≡ true
      to j f h = let p = and_parts (reaches bs j) (nat_le j.number m) h in both_true (reaches cs j) (is_before later j.number) (change.more j p.0)
          (up_to_next ks m (reaches cs) order.0 j f (leb-true j.number m p.1))

      from : (j : Kept) → find_number ks j.number ≡ Some j → (reaches cs j && is_before later j.number) ≡ true →
          (reaches bs j && nat_le j.number m) ≡ true
      from j f h =
          let p = and_parts (reaches cs j) (is_before later j.number) h in
          let low = only_next ks m (reaches cs) order.0 j f p.0 p.1 in
          both_true (reaches bs j) (nat_le j.number m) (same_before j p.0 low) (le-leb j.number m low)

  next_step : (p : Option ℕ) → later ≡ p → IsNext ks cs p
  next_step None is = tt
  next_step (Some i) is =
      let h = first_of (λ j. find_number ks j.number ≡ Some j) (λ j. reaches cs j && nat_lt m j.number) i ks
      (for_each _ ks order.0 (λ j f. f)) is in
      (h.0, ap (find_number ks) (sym h.1) ∙ h.2, (and_parts (reaches cs h.0) _ h.3).0)

  sound_step : (x : Kept) → find_number ks x.number ≡ Some x → reaches cs x ≡ true → Follows ks n x.number
  sound_step x f h = go (reached x h)
    where
      from_here : (d : Kept) → find_number ks d.number ≡ Some d → is_consequence ks k d ≡ true → Follows ks n d.number
      from_here d fd follows = Next k d (old.sound k itself here) itself fd follows

      past : (d : Kept) → find_number ks d.number ≡ Some d → is_consequence ks k d ≡ true → d.node ≡ x.node → (d.number ≡ x.number) ⊎
          (d.number ≡ x.number → ⊥) → d.number ≤ x.number → Follows ks n x.number
      past d fd follows node (inl e) low = subst (Follows ks n) e (from_here d fd follows)
      past d fd follows node (inr apart) low =
          Next d x (from_here d fd follows) fd f
          (ap (λ b. b || delivers_from ks x d)
          (both_true (d.node == x.node) (nat_lt d.number x.number) (eq-eqb d.node x.node node) (lt-ltb d.number x.number (omega arith))))

      go : (reaches bs x ≡ true) ⊎ IsSent x → Follows ks n x.number
      go (inl e) = old.sound x f e
      go (inr e) = past e.0 e.1 e.2 e.3 (cases_eq e.0.number x.number) e.4

  closed_step : (x j : Kept) → find_number ks x.number ≡ Some x → find_number ks j.number ≡ Some j → reaches cs x ≡ true →
      is_before later x.number ≡ true → is_consequence ks x j ≡ true → reaches cs j ≡ true
  closed_step x j fx fj h before follows =
      let low = only_next ks m (reaches cs) order.0 x fx h before in
      go low (cases_lt x.number m)
    where
      next_of_node : (b d : Kept) → b.node ≡ d.node → b.number < d.number → reaches cs b ≡ true → reaches cs d ≡ true
      next_of_node b d e below_it r = lift (bound_at cs b.node) (bound_at cs d.node) (ap (bound_at cs) e) r
        where
          lift : (p q : Option ℕ) → p ≡ q → is_above p b.number ≡ true → is_above q d.number ≡ true
          lift p q e r = subst (λ o. is_above o d.number ≡ true) e (up p r)
            where
              up : (p : Option ℕ) → is_above p b.number ≡ true → is_above p d.number ≡ true
              up None r = absurd (cc)
              up (Some a) r = let low = ltb-true a b.number r in lt-ltb a d.number (omega arith)

      at_here : (is_consequence ks k j) ≡ true → reaches cs j ≡ true
      at_here f = by (or_cases ((k.node == j.node) && nat_lt k.number j.number) (delivers_from ks j k) f)
        where
          by : (((k.node == j.node) && nat_lt k.number j.number) ≡ true) ⊎ (delivers_from ks j k ≡ true) → reaches cs j ≡ true
          by (inl e) = let p =
              and_parts (k.node == j.node) (nat_lt k.number j.number) e in next_of_node k j (eqb-true k.node j.node p.0)
              (ltb-true k.number j.number p.1) (change.more k here)
          by (inr e) = change.all j fj (ap (list_any (λ i. i == j.number)) sent_is ∙ in_list (λ i. delivers_from ks i k) j j.number ks fj e)

      go : x.number ≤ m → (x.number < m) ⊎ (m ≤ x.number) → reaches cs j ≡ true
      go low (inl below_it) = change.more j (old.closed x j fx fj (same_before x h low) (lt-ltb x.number m below_it) follows)
      go low (inr more) =
          let same : k ≡ x = one_step ks k x itself fx (let e = number in omega arith) in
          at_here (subst (λ (y : Kept). is_consequence ks y j ≡ true) (sym same) follows)

  pub gathered_more : IsGatheredUpTo ks n (ns ++ m ∷ []) cs later
  gathered_more = record {
    gathered = gathered_step;
    upcoming = next_step later refl;
    start = λ j f. change.more j (old.start j f);
    sound = sound_step;
    closed = closed_step;
  }
