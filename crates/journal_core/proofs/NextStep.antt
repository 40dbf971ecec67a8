-- The next step of a future: the first above the bound of its node; and that fewer are left after it.
use Rattle.std.proofs.Common.{◌≡◌, ◌⊎◌, inl, inr, ℕ, ◌+◌, ◌<◌, ◌≤◌, ◌==◌, ◌&&◌, ◌||◌, nat_lt, nat_le, Bool, true, false, if◌then◌else◌, List}
use Rattle.std.proofs.Common.{[]}
use Rattle.std.proofs.Common.{◌∷◌, length, Option, Some, None, refl, sym, ap, ◌∙◌, arith}
use Rattle.std.specs.List.{AllByRecursion as Each, filter}
use Rattle.std.proofs.lemmas.Bool.{cases_eq, cases_lt, eqb-true, eq-eqb, ne_eqb, and_parts, lt-ltb, le-ltb, ltb-true, ltb-false, le-leb, lt-leb}
use Rattle.journal_core.specs.Numbers.{first_above, least}
use Rattle.journal_core.specs.Journals.{Kept, NumbersRise, own_steps, find_number, first_number, numbers}
use Rattle.journal_core.specs.Causes.{AreKnown}
use Rattle.journal_core.specs.Bounds.{is_above, bound_at, reaches, next_own, steps_left}
use Rattle.journal_core.proofs.Each.{each_imp}
use Rattle.journal_core.proofs.Consequences.{least_first, later_first}
use Rattle.journal_core.proofs.StepKinds.{first_each, all_same, same_test, both_true, first_of}

-- fewer steps are left

count_at_most : (a b : ℕ) (ks : List Kept) → a ≤ b → length (filter (λ k. nat_le b k.number) ks) ≤ length (filter (λ k. nat_le a k.number) ks)
count_at_most a b [] low = omega arith
count_at_most a b (k ∷ ks) low = go (cases_lt k.number b) (cases_lt k.number a) (count_at_most a b ks low)
  where
    go : (k.number < b) ⊎ (b ≤ k.number) → (k.number < a) ⊎ (a ≤ k.number) → length (filter (λ k. nat_le b k.number) ks) ≤ length
        (filter (λ k. nat_le a k.number) ks) → length (filter (λ k. nat_le b k.number) (k ∷ ks)) ≤ length (filter (λ k. nat_le a k.number) (k ∷ ks))
    go (inl p) (inl q) more = rw (lt-leb b k.number p, lt-leb a k.number q) more
    go (inl p) (inr q) more = rw (lt-leb b k.number p, le-leb a k.number q) (omega arith)
    go (inr p) (inl q) more = absurd (omega arith)
    go (inr p) (inr q) more = rw (le-leb b k.number p, le-leb a k.number q) (omega arith)

count_less : (a b : ℕ) (x : Kept) (ks : List Kept) → a < b → find_number ks a ≡ Some x → length (filter (λ k. nat_le b k.number) ks) < length
    (filter (λ k. nat_le a k.number) ks)
count_less a b x [] low found = absurd (cc)
count_less a b x (k ∷ ks) low found =
    go (k.number == a) refl found (cases_lt k.number b) (cases_lt k.number a) (count_less a b x ks low) (count_at_most a b ks (omega arith))
  where
    go : (d : Bool) → (k.number == a) ≡ d → (if d then Some k else find_number ks a) ≡ Some x → (k.number < b) ⊎ (b ≤ k.number) → (k.number < a) ⊎
        (a ≤ k.number) →
        (find_number ks a ≡ Some x → length (filter (λ k. nat_le b k.number) ks) < length (filter (λ k. nat_le a k.number) ks)) → length
        (filter (λ k. nat_le b k.number) ks) ≤ length (filter (λ k. nat_le a k.number) ks) →
        length (filter (λ k. nat_le b k.number) (k ∷ ks)) < length (filter (λ k. nat_le a k.number) (k ∷ ks))
    go true is f (inl p) (inr q) more most = rw (lt-leb b k.number p, le-leb a k.number q) (omega arith)
    go true is f (inl p) (inl q) more most = absurd (let e = eqb-true k.number a is in omega arith)
    go true is f (inr p) q more most = absurd (let e = eqb-true k.number a is in omega arith)
    go false is f (inl p) (inl q) more most = let h = more f in rw (lt-leb b k.number p, lt-leb a k.number q) h
    go false is f (inl p) (inr q) more most = rw (lt-leb b k.number p, le-leb a k.number q) (omega arith)
    go false is f (inr p) (inl q) more most = absurd (omega arith)
    go false is f (inr p) (inr q) more most = let h = more f in rw (le-leb b k.number p, le-leb a k.number q) (omega arith)

count_some : (a : ℕ) (x : Kept) (ks : List Kept) → find_number ks a ≡ Some x → 0 < length (filter (λ k. nat_le a k.number) ks)
count_some a x [] found = absurd (cc)
count_some a x (k ∷ ks) found = go (k.number == a) refl found (cases_lt k.number a) (count_some a x ks)
  where
    go : (d : Bool) → (k.number == a) ≡ d → (if d then Some k else find_number ks a) ≡ Some x → (k.number < a) ⊎ (a ≤ k.number) →
        (find_number ks a ≡ Some x → 0 < length (filter (λ k. nat_le a k.number) ks)) → 0 < length (filter (λ k. nat_le a k.number) (k ∷ ks))
    go d is f (inr q) more = rw (le-leb a k.number q) (omega arith)
    go true is f (inl q) more = absurd (let e = eqb-true k.number a is in omega arith)
    go false is f (inl q) more = rw (lt-leb a k.number q) (more f)

pub left_less : (ks : List Kept) (m : ℕ) (k : Kept) (test : Kept → Bool) (o : Option ℕ) → find_number ks m ≡ Some k → o ≡ first_number
    (λ j. test j && nat_lt m j.number) ks → steps_left ks o < steps_left ks (Some m)
left_less ks m k test None found is = count_some m k ks found
left_less ks m k test (Some i) found is =
    let h = first_of (λ j. Unit {0}) (λ j. test j && nat_lt m j.number) i ks (units ks) (sym is) in
    let above = ltb-true m h.0.number (and_parts (test h.0) _ h.3).1 in
    let e = h.1 in
    count_less m i k ks (omega arith) found
  where
    units : (js : List Kept) → Each (λ j. Unit {0}) js
    units [] = tt
    units (j ∷ js) = (tt, units js)

-- the first step above its bound, node by node

module _ (ks : List Kept) (bs : List (Option ℕ)) (n : ℕ) (rises : NumbersRise 0 ks) where
  abbrev test : Kept → Bool
  test k = reaches bs k && nat_lt n k.number

  and_false : (b : Bool) → (b && false) ≡ false
  and_false true = refl
  and_false false = refl

  pub no_node : None ≡ first_number (λ k. nat_lt k.node 0 && test k) ks
  no_node = sym (none ks)
    where
      none : (js : List Kept) → first_number (λ k. nat_lt k.node 0 && test k) js ≡ None
      none [] = refl
      none (j ∷ js) = rw (le-ltb j.node 0 (omega arith)) (none js)

  pub all_nodes : (i : ℕ) → AreKnown i ks → first_number (λ k. nat_lt k.node i && test k) ks ≡ first_number test ks
  all_nodes i known = first_each _ _ ks
      (each_imp (λ (k : Kept). k.node < i) (λ k. (nat_lt k.node i && test k) ≡ test k) (λ k h. rw (lt-ltb k.node i h) refl) ks known)

  one_node : (i : ℕ) (own : List ℕ) → own ≡ numbers (own_steps ks i) → (o : Option ℕ) → bound_at bs i ≡ o → next_own o n own ≡ first_number
      (λ k. (k.node == i) && test k) ks
  one_node i own is None at = sym (first_each _ (λ k. false) ks (all_same _ _ out ks) ∙ never ks)
    where
      never : (js : List Kept) → first_number (λ k. false) js ≡ None
      never [] = refl
      never (j ∷ js) = never js

      out : (k : Kept) → ((k.node == i) && test k) ≡ false
      out k = go (k.node == i) refl
        where
          go : (b : Bool) → (k.node == i) ≡ b → (b && (is_above (bound_at bs k.node) k.number && nat_lt n k.number)) ≡ false
          go false e = refl
          go true e = ap (λ o. is_above o k.number && nat_lt n k.number) (ap (bound_at bs) (eqb-true k.node i e) ∙ at)
  one_node i own is (Some a) at =
      ap (first_above (if nat_lt a n then n else a)) is ∙ sym (later_first (λ k. k.node == i) (if nat_lt a n then n else a) ks) ∙ first_each _ _ ks
      (all_same _ _ agree ks)
    where
      joint : (j : ℕ) → nat_lt (if nat_lt a n then n else a) j ≡ (nat_lt a j && nat_lt n j)
      joint j = go (nat_lt a n) refl
        where
          go : (b : Bool) → nat_lt a n ≡ b → nat_lt (if b then n else a) j ≡ (nat_lt a j && nat_lt n j)
          go true e = let low =
              ltb-true a n e in same_test _ _ (λ h. let high = ltb-true n j h in both_true (nat_lt a j) (nat_lt n j) (lt-ltb a j (omega arith)) h)
              (λ h. (and_parts (nat_lt a j) (nat_lt n j) h).1)
          go false e = let low =
              ltb-false a n e in same_test _ _ (λ h. let high = ltb-true a j h in both_true (nat_lt a j) (nat_lt n j) h (lt-ltb n j (omega arith)))
              (λ h. (and_parts (nat_lt a j) (nat_lt n j) h).0)

      agree : (k : Kept) → ((k.node == i) && nat_lt (if nat_lt a n then n else a) k.number) ≡ ((k.node == i) && test k)
      agree k = go (k.node == i) refl
        where
          go : (b : Bool) → (k.node == i) ≡ b → (b && nat_lt (if nat_lt a n then n else a) k.number) ≡
              (b && (is_above (bound_at bs k.node) k.number && nat_lt n k.number))
          go false e = refl
          go true e = joint k.number ∙ ap (λ o. is_above o k.number && nat_lt n k.number) (sym (ap (bound_at bs) (eqb-true k.node i e) ∙ at))

  pub next_node : (i : ℕ) (own : List ℕ) (o : Option ℕ) → own ≡ numbers (own_steps ks i) → o ≡ first_number (λ k. nat_lt k.node i && test k) ks →
      least o (next_own (bound_at bs i) n own) ≡ first_number (λ k. nat_lt k.node (i + 1) && test k) ks
  next_node i own o is so_far =
      ap (λ p. least p (next_own (bound_at bs i) n own)) so_far ∙ ap (least (first_number (λ k. nat_lt k.node i && test k) ks))
      (one_node i own is (bound_at bs i) refl)
      ∙ sym (least_first 0 (λ k. nat_lt k.node i && test k) (λ k. (k.node == i) && test k) ks rises)
      ∙ first_each _ _ ks (all_same _ _ (λ k. split (nat_lt k.node i) (k.node == i) (nat_lt k.node (i + 1)) (test k) (one_more_node k.node)) ks)
    where
      split : (a b c t : Bool) → c ≡ (a || b) → ((a && t) || (b && t)) ≡ (c && t)
      split true true c true e = rw e refl
      split true true c false e = rw e refl
      split true false c true e = rw e refl
      split true false c false e = rw e refl
      split false b c t e = rw e refl

      one_more_node : (x : ℕ) → nat_lt x (i + 1) ≡ (nat_lt x i || (x == i))
      one_more_node x = go (cases_lt x i) (cases_eq x i)
        where
          go : (x < i) ⊎ (i ≤ x) → (x ≡ i) ⊎ (x ≡ i → ⊥) → nat_lt x (i + 1) ≡ (nat_lt x i || (x == i))
          go (inl low) e = rw (lt-ltb x i low) (lt-ltb x (i + 1) (omega arith))
          go (inr high) (inl e) = rw (le-ltb x i high, eq-eqb x i e) (lt-ltb x (i + 1) (omega arith))
          go (inr high) (inr apart) = rw (le-ltb x i high, ne_eqb x i apart) (le-ltb x (i + 1) (omega arith))
