-- Bounds that are brought below some steps.
use Rattle.std.proofs.Common.{◌≡◌, ◌⊎◌, inl, inr, ℕ, ◌-◌, ◌<◌, ◌≤◌, ◌==◌, ◌||◌, nat_lt, Bool, true, false, if◌then◌else◌, List, [], ◌∷◌, length}
use Rattle.std.proofs.Common.{slice_set, Option, Some, None, refl, sym, ap, ◌∙◌, subst, arith}
use Rattle.std.specs.List.{list_any}
use Rattle.std.proofs.lemmas.Bool.{cases_eq, eqb-true, eq-eqb, or_cases, or_right, lt-ltb, ltb-true, ltb-false}
use Rattle.std.proofs.lemmas.List.{length-set, get_or-set_same, get_or-set_other}
use Rattle.journal_core.specs.Journals.{Kept, NumbersRise, find_number}
use Rattle.journal_core.specs.Causes.{AreKnown}
use Rattle.journal_core.specs.Bounds.{is_above, bound_at, reaches, lower_bound, lower_at, lowered}
use Rattle.journal_core.proofs.Each.{each_find, find_itself}
use Rattle.journal_core.proofs.StepKinds.{positive, by_itself}

-- one bound lower

above_more : (o : Option ℕ) (n j : ℕ) → is_above o j ≡ true → is_above (lower_bound o n) j ≡ true
above_more None n j h = absurd (cc)
above_more (Some a) n j h = go (nat_lt a n) refl
  where
    go : (b : Bool) → nat_lt a n ≡ b → nat_lt (if b then a else n - 1) j ≡ true
    go true is = h
    go false is = let low = ltb-true a j h in let high = ltb-false a n is in lt-ltb (n - 1) j (omega arith)

above_here : (o : Option ℕ) (n j : ℕ) → 0 < n → n ≤ j → is_above (lower_bound o n) j ≡ true
above_here None n j p h = lt-ltb (n - 1) j (omega arith)
above_here (Some a) n j p h = go (nat_lt a n) refl
  where
    go : (b : Bool) → nat_lt a n ≡ b → nat_lt (if b then a else n - 1) j ≡ true
    go true is = let low = ltb-true a n is in lt-ltb a j (omega arith)
    go false is = lt-ltb (n - 1) j (omega arith)

above_only : (o : Option ℕ) (n j : ℕ) → is_above (lower_bound o n) j ≡ true → (is_above o j ≡ true) ⊎ (n ≤ j)
above_only None n j h = let low = ltb-true (n - 1) j h in inr (omega arith)
above_only (Some a) n j h = go (nat_lt a n) h
  where
    go : (b : Bool) → nat_lt (if b then a else n - 1) j ≡ true → (nat_lt a j ≡ true) ⊎ (n ≤ j)
    go true h = inl h
    go false h = let low = ltb-true (n - 1) j h in inr (omega arith)

module _ (bs : List (Option ℕ)) (k : Kept) (within : k.node < length bs) (low : 0 < k.number) where
  abbrev new : Option ℕ
  new = lower_bound (bound_at bs k.node) k.number

  at_same : (x : Kept) → x.node ≡ k.node → bound_at (lower_at bs (Some k)) x.node ≡ new
  at_same x e = ap (bound_at (slice_set bs k.node new)) e ∙ get_or-set_same bs k.node new None within

  at_other : (x : Kept) → (x.node ≡ k.node → ⊥) → bound_at (lower_at bs (Some k)) x.node ≡ bound_at bs x.node
  at_other x apart = get_or-set_other bs k.node x.node new None apart

  pub one_more : (x : Kept) → reaches bs x ≡ true → reaches (lower_at bs (Some k)) x ≡ true
  one_more x h = go (cases_eq x.node k.node)
    where
      go : (x.node ≡ k.node) ⊎ (x.node ≡ k.node → ⊥) → reaches (lower_at bs (Some k)) x ≡ true
      go (inl e) = ap (λ o. is_above o x.number) (at_same x e) ∙ above_more (bound_at bs k.node) k.number x.number
          (ap (λ n. is_above (bound_at bs n) x.number) (sym e) ∙ h)
      go (inr apart) = ap (λ o. is_above o x.number) (at_other x apart) ∙ h

  pub one_here : reaches (lower_at bs (Some k)) k ≡ true
  one_here = ap (λ o. is_above o k.number) (at_same k refl) ∙ above_here (bound_at bs k.node) k.number k.number low (omega arith)

  pub one_only : (x : Kept) → reaches (lower_at bs (Some k)) x ≡ true → (reaches bs x ≡ true) ⊎ ((k.node ≡ x.node) × (k.number ≤ x.number))
  one_only x h = go (cases_eq x.node k.node)
    where
      go : (x.node ≡ k.node) ⊎ (x.node ≡ k.node → ⊥) → (reaches bs x ≡ true) ⊎ ((k.node ≡ x.node) × (k.number ≤ x.number))
      go (inr apart) = inl (ap (λ o. is_above o x.number) (sym (at_other x apart)) ∙ h)
      go (inl e) = at (above_only (bound_at bs k.node) k.number x.number (ap (λ o. is_above o x.number) (sym (at_same x e)) ∙ h))
        where
          at : (is_above (bound_at bs k.node) x.number ≡ true) ⊎ (k.number ≤ x.number) → (reaches bs x ≡ true) ⊎
              ((k.node ≡ x.node) × (k.number ≤ x.number))
          at (inl h) = inl (ap (λ n. is_above (bound_at bs n) x.number) e ∙ h)
          at (inr h) = inr (sym e, h)

-- the bounds of several steps lower

pub lower_length : (bs : List (Option ℕ)) (o : Option Kept) → length (lower_at bs o) ≡ length bs
lower_length bs None = refl
lower_length bs (Some k) = length-set bs k.node (lower_bound (bound_at bs k.node) k.number)

pub lowered_length : (ks : List Kept) (ns : List ℕ) (bs : List (Option ℕ)) → length (lowered ks ns bs) ≡ length bs
lowered_length ks [] bs = refl
lowered_length ks (n ∷ ns) bs = lowered_length ks ns (lower_at bs (find_number ks n)) ∙ lower_length bs (find_number ks n)

abbrev pub IsLower : List Kept → List ℕ → Kept → Type 0
IsLower ks ns x = (k : Kept) × (find_number ks k.number ≡ Some k) × (list_any (λ m. m == k.number) ns ≡ true) × (k.node ≡ x.node) ×
    (k.number ≤ x.number)

pub record Lowers (ks : List Kept) (ns : List ℕ) (bs cs : List (Option ℕ)) : Type 0 where
  pub more : (x : Kept) → reaches bs x ≡ true → reaches cs x ≡ true
  pub all : (x : Kept) → find_number ks x.number ≡ Some x → list_any (λ m. m == x.number) ns ≡ true → reaches cs x ≡ true
  pub only : (x : Kept) → reaches cs x ≡ true → (reaches bs x ≡ true) ⊎ IsLower ks ns x

further : (ks : List Kept) (n : ℕ) (ns : List ℕ) (x : Kept) → IsLower ks ns x → IsLower ks (n ∷ ns) x
further ks n ns x h = (h.0, h.1, or_right (n == h.0.number) _ h.2, h.3, h.4)

pub lowers : (ks : List Kept) (ns : List ℕ) (bs : List (Option ℕ)) → NumbersRise 0 ks → AreKnown (length bs) ks → Lowers ks ns bs (lowered ks ns bs)
lowers ks [] bs rises known = record { more = λ x h. h; all = λ x found h. absurd (cc); only = λ x h. inl h }
lowers ks (n ∷ ns) bs rises known =
    go (find_number ks n) refl
    (lowers ks ns (lower_at bs (find_number ks n)) rises (subst (λ m. AreKnown m ks) (sym (lower_length bs (find_number ks n))) known))
  where
    from : (k x : Kept) → find_number ks n ≡ Some k → (reaches bs x ≡ true) ⊎ ((k.node ≡ x.node) × (k.number ≤ x.number)) →
        (reaches bs x ≡ true) ⊎ IsLower ks (n ∷ ns) x
    from k x is (inl h) = inl h
    from k x is (inr h) =
        let e : n ≡ k.number = sym (find_itself ks n k is) in
        inr (k, by_itself ks n k rises is, ap (λ b. b || list_any (λ m. m == k.number) ns) (eq-eqb n k.number e), h.0, h.1)

    none : (x : Kept) → find_number ks n ≡ None → Lowers ks ns bs (lowered ks ns bs) → find_number ks x.number ≡ Some x → (n == x.number ≡ true) ⊎
        (list_any (λ m. m == x.number) ns ≡ true) → reaches (lowered ks ns bs) x ≡ true
    none x is rest found (inl e) =
        absurd (let same = eqb-true n x.number e in let wrong : None ≡ Some x = sym is ∙ ap (find_number ks) same ∙ found in cc)
    none x is rest found (inr e) = rest.all x found e

    some : (k x : Kept) → find_number ks n ≡ Some k → Lowers ks ns (lower_at bs (Some k)) (lowered ks ns (lower_at bs (Some k))) →
        find_number ks x.number ≡ Some x → (n == x.number ≡ true) ⊎ (list_any (λ m. m == x.number) ns ≡ true) → reaches
        (lowered ks ns (lower_at bs (Some k))) x ≡ true
    some k x is rest found (inl e) =
        let within : k.node < length bs = each_find (λ (j : Kept). j.node < length bs) ks n k known is in
        let low = positive ks n k rises is in
        let one : Some k ≡ Some x = sym is ∙ ap (find_number ks) (eqb-true n x.number e) ∙ found in
        let same : k ≡ x = cc in
        rest.more x (subst (λ (y : Kept). reaches (lower_at bs (Some k)) y ≡ true) same (one_here bs k within low))
    some k x is rest found (inr e) = rest.all x found e

    go : (o : Option Kept) → find_number ks n ≡ o → Lowers ks ns (lower_at bs o) (lowered ks ns (lower_at bs o)) → Lowers ks (n ∷ ns) bs
        (lowered ks ns (lower_at bs o))
    go None is rest = record {
      more = rest.more;
      all = λ x found h. none x is rest found (or_cases (n == x.number) _ h);
      only = λ x h. elim (rest.only x h) [ inl e ↦ inl e | inr e ↦ inr (further ks n ns x e) ];
    }
    go (Some k) is rest =
        let within : k.node < length bs = each_find (λ (j : Kept). j.node < length bs) ks n k known is in
        let low = positive ks n k rises is in
        record {
          more = λ x h. rest.more x (one_more bs k within low x h);
          all = λ x found h. some k x is rest found (or_cases (n == x.number) _ h);
          only = λ x h. elim (rest.only x h) [ inl e ↦ from k x is (one_only bs k within low x e) | inr e ↦ inr (further ks n ns x e) ];
        }
