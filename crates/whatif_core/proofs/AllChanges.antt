-- The list of changes has those that the run has, and each of them stands within it.
use Rattle.std.proofs.Common.{◌≡◌, ◌⊎◌, inl, inr, ℕ, zero, suc, ◌+◌, ◌-◌, ◌<◌, ◌≤◌, ◌==◌, ◌&&◌, nat_lt, Bool, true, false, if◌then◌else◌, List, [], ◌∷◌, ◌++◌, length, slice_get, slice_range, Option, Some, None, refl, sym, ap, ◌∙◌, subst, append_assoc, append-nil, arith, true≢false}
use Rattle.std.specs.List.{Contains}
use Rattle.std.proofs.lemmas.Bool.{and_parts, cases_lt, eqb-true, ltb-true}
use Rattle.std.proofs.lemmas.Option.{slice_get_within}
use Rattle.std.proofs.lemmas.List.Elements.{Contains-append_left, Contains-append_right, Contains-append_cases}
use Rattle.journal_core.specs.Journals.{Kept}
use Rattle.change_core.specs.declared.change.Change.{Change}
use Rattle.change_core.specs.declared.change.Kind.{Kind}
use Rattle.change_core.specs.declared.change.Kind.TheVariants.{Lost, Never, Before, Behind, Again}
use Rattle.change_core.specs.Changes.{may, may_at, may_pass, is_delivery, is_notice, is_change, reach, off, change_at, if_change, changes_within, changes_by, changes_of, changes_to, changes}
use Rattle.whatif_core.specs.Exact.{AreAllChanges}

pub in_none : {X : Type 0} (x : X) → Contains [] x → ⊥
in_none x h = absurd (omega (arith, h.1))

pub in_one : {X : Type 0} (y x : X) → Contains (y ∷ []) x → y ≡ x
in_one y x (zero, lt, is) = is
in_one y x (suc i, lt, is) = absurd (omega (arith, lt))

pub one_in : {X : Type 0} (x : X) → Contains (x ∷ []) x
one_in x = (zero, omega arith, refl)

pub contains_at : {X : Type 0} (xs : List X) (i : ℕ) (x : X) → slice_get xs i ≡ Some x → Contains xs x
contains_at [] i x h = absurd (cc)
contains_at (y ∷ xs) zero x h = (zero, omega arith, cc)
contains_at (y ∷ xs) (suc i) x h = behind (contains_at xs i x h)
  where
    behind : Contains xs x → Contains (y ∷ xs) x
    behind (j, lt, is) = (suc j, omega (arith, lt), is)

-- none yet, and one more, of the walks
pub within_none : (ks : List Kept) (kind : Kind) (i : ℕ) (start : List Change) → start ≡ start ++ changes_within ks kind i 0
unfolding changes_within
within_none ks kind i start = sym (append-nil start)

pub to_none : (ks : List Kept) (start : List Change) → start ≡ [] → start ≡ changes_to ks 0
unfolding changes_to
to_none ks start h = h

pub to_more : (ks : List Kept) (i : ℕ) (now new : List Change) → now ≡ changes_to ks i → new ≡ now ++ changes_of ks i → new ≡ changes_to ks (i + 1)
unfolding changes_to
to_more ks i now new so_far is =
    let next : suc i ≡ i + 1 = omega arith in
    is ∙ ap (λ (l : List Change). l ++ changes_of ks i) so_far ∙ ap (λ n. changes_to ks n) next

pub within_more : (ks : List Kept) (kind : Kind) (i d : ℕ) (start now new : List Change) (c : Change) → now ≡ start ++ changes_within ks kind i d →
    new ≡ now ++ if_change ks c → c ≡ change_at kind i d → new ≡ start ++ changes_within ks kind i (d + 1)
unfolding changes_within
within_more ks kind i d start now new c so_far is at =
    let next : suc d ≡ d + 1 = omega arith in
    is ∙ ap (λ (l : List Change). l ++ if_change ks c) so_far
    ∙ append_assoc start (changes_within ks kind i d) (if_change ks c)
    ∙ ap (λ c. start ++ (changes_within ks kind i d ++ if_change ks c)) at
    ∙ ap (λ n. start ++ changes_within ks kind i n) next

module _ (ks : List Kept) where
  -- a change that the run has stands within it
  pub within : (c : Change) → is_change ks c ≡ true → (c.place < length ks) × (c.beside < length ks)
  unfolding is_change
  within c h = go (slice_get ks c.place) (slice_get ks c.beside) refl refl h
    where
      go : (k x : Option Kept) → slice_get ks c.place ≡ k → slice_get ks c.beside ≡ x → may_at ks c k x ≡ true → (c.place < length ks) × (c.beside < length ks)
      go None x at too h = absurd (true≢false (sym h))
      go (Some k) None at too h = absurd (true≢false (sym h))
      go (Some k) (Some x) at too h = (slice_get_within ks c.place k at, slice_get_within ks c.beside x too)

  -- how far off a place is
  record IsOff (kind : Kind) (i j : ℕ) : Type 0 where
    distance : ℕ
    reached : i < length ks → j < length ks → distance < reach (length ks) kind i
    is : off kind i distance ≡ j

  far : (kind : Kind) (i j : ℕ) (k x : Kept) → may ks kind i j k x ≡ true → IsOff kind i j
  far Lost i j k x h = let same : i ≡ j = eqb-true i j (and_parts (i == j) (is_delivery k.step) h).0 in
      record { distance = 0; reached = λ lt too. omega (arith, lt); is = omega (arith, same) }
  far Never i j k x h = let same : i ≡ j = eqb-true i j (and_parts (i == j) (is_notice k.step) h).0 in
      record { distance = 0; reached = λ lt too. omega (arith, lt); is = omega (arith, same) }
  far Before i j k x h =
      let later = (and_parts (k.node == x.node) (nat_lt j i && may_pass (slice_range ks j i) k) h).1 in
      let less : j < i = ltb-true j i (and_parts (nat_lt j i) (may_pass (slice_range ks j i) k) later).0 in
      record { distance = i - j; reached = λ lt too. omega (arith, less); is = omega (arith, less) }
  far Behind i j k x h =
      let later = (and_parts (k.node == x.node) (nat_lt i j && may_pass (slice_range ks (i + 1) (j + 1)) k) h).1 in
      let less : i < j = ltb-true i j (and_parts (nat_lt i j) (may_pass (slice_range ks (i + 1) (j + 1)) k) later).0 in
      record { distance = j - i; reached = λ lt too. omega (arith, less, lt, too); is = omega (arith, less) }
  far Again i j k x h =
      let later = (and_parts (k.node == x.node) (nat_lt i j && is_delivery k.step) h).1 in
      let less : i < j = ltb-true i j (and_parts (nat_lt i j) (is_delivery k.step) later).0 in
      record { distance = j - i; reached = λ lt too. omega (arith, less, lt, too); is = omega (arith, less) }

  off_of : (c : Change) → is_change ks c ≡ true → IsOff c.kind c.place c.beside
  unfolding is_change
  off_of c h = go (slice_get ks c.place) (slice_get ks c.beside) h
    where
      go : (k x : Option Kept) → may_at ks c k x ≡ true → IsOff c.kind c.place c.beside
      go None x h = absurd (true≢false (sym h))
      go (Some k) None h = absurd (true≢false (sym h))
      go (Some k) (Some x) h = far c.kind c.place c.beside k x h

  -- one that the run has, and none else, is put
  of_if : (c x : Change) → Contains (if_change ks c) x → is_change ks x ≡ true
  of_if c x h = go (is_change ks c) refl h
    where
      go : (b : Bool) → is_change ks c ≡ b → Contains (if b then c ∷ [] else []) x → is_change ks x ≡ true
      go true is h = ap (is_change ks) (sym (in_one c x h)) ∙ is
      go false is h = absurd (in_none x h)

  has_if : (c : Change) → is_change ks c ≡ true → Contains (if_change ks c) c
  has_if c h = subst (λ (b : Bool). Contains (if b then c ∷ [] else []) c) (sym h) (one_in c)

  of_within : (kind : Kind) (i d : ℕ) (x : Change) → Contains (changes_within ks kind i d) x → is_change ks x ≡ true
  unfolding changes_within
  of_within kind i zero x h = absurd (in_none x h)
  of_within kind i (suc d) x h = go (of_within kind i d x) (Contains-append_cases _ _ x h)
    where
      go : (Contains (changes_within ks kind i d) x → is_change ks x ≡ true) →
          Contains (changes_within ks kind i d) x ⊎ Contains (if_change ks (change_at kind i d)) x → is_change ks x ≡ true
      go before (inl h) = before h
      go before (inr h) = of_if (change_at kind i d) x h

  has_within : (kind : Kind) (i d n : ℕ) (x : Change) → d < n → Contains (if_change ks (change_at kind i d)) x → Contains (changes_within ks kind i n) x
  unfolding changes_within
  has_within kind i d zero x lt h = absurd (omega (arith, lt))
  has_within kind i d (suc n) x lt h = go (cases_lt d n) (λ less. has_within kind i d n x less h)
    where
      go : (d < n) ⊎ (n ≤ d) → (d < n → Contains (changes_within ks kind i n) x) → Contains (changes_within ks kind i n ++ if_change ks (change_at kind i n)) x
      go (inl less) before = Contains-append_left _ _ x (before less)
      go (inr most) before =
          let last : d ≡ n = omega (arith, lt, most) in
          Contains-append_right _ _ x (subst (λ d. Contains (if_change ks (change_at kind i d)) x) last h)

  of_of : (i : ℕ) (x : Change) → Contains (changes_of ks i) x → is_change ks x ≡ true
  unfolding changes_of
  of_of i x h = lost (Contains-append_cases _ _ x h)
    where
      by : (kind : Kind) → Contains (changes_by ks kind i) x → is_change ks x ≡ true
      by kind h = of_within kind i (reach (length ks) kind i) x h

      behind : Contains (changes_by ks Behind i) x ⊎ Contains (changes_by ks Again i) x → is_change ks x ≡ true
      behind (inl h) = by Behind h
      behind (inr h) = by Again h

      before : Contains (changes_by ks Before i) x ⊎ Contains (changes_by ks Behind i ++ changes_by ks Again i) x → is_change ks x ≡ true
      before (inl h) = by Before h
      before (inr h) = behind (Contains-append_cases _ _ x h)

      never : Contains (changes_by ks Never i) x ⊎ Contains (changes_by ks Before i ++ (changes_by ks Behind i ++ changes_by ks Again i)) x → is_change ks x ≡ true
      never (inl h) = by Never h
      never (inr h) = before (Contains-append_cases _ _ x h)

      lost : Contains (changes_by ks Lost i) x ⊎ Contains (changes_by ks Never i ++ (changes_by ks Before i ++ (changes_by ks Behind i ++ changes_by ks Again i))) x →
          is_change ks x ≡ true
      lost (inl h) = by Lost h
      lost (inr h) = never (Contains-append_cases _ _ x h)

  has_of : (kind : Kind) (i : ℕ) (x : Change) → Contains (changes_by ks kind i) x → Contains (changes_of ks i) x
  unfolding changes_of
  has_of kind i x h = go kind h
    where
      go : (kind : Kind) → Contains (changes_by ks kind i) x → Contains (changes_by ks Lost i ++ (changes_by ks Never i ++ (changes_by ks Before i ++ (changes_by ks Behind i ++ changes_by ks Again i)))) x
      go Lost h = Contains-append_left (changes_by ks Lost i) (changes_by ks Never i ++ (changes_by ks Before i ++ (changes_by ks Behind i ++ changes_by ks Again i))) x h
      go Never h = Contains-append_right (changes_by ks Lost i) (changes_by ks Never i ++ (changes_by ks Before i ++ (changes_by ks Behind i ++ changes_by ks Again i))) x (Contains-append_left (changes_by ks Never i) (changes_by ks Before i ++ (changes_by ks Behind i ++ changes_by ks Again i)) x h)
      go Before h = Contains-append_right (changes_by ks Lost i) (changes_by ks Never i ++ (changes_by ks Before i ++ (changes_by ks Behind i ++ changes_by ks Again i))) x (Contains-append_right (changes_by ks Never i) (changes_by ks Before i ++ (changes_by ks Behind i ++ changes_by ks Again i)) x (Contains-append_left (changes_by ks Before i) (changes_by ks Behind i ++ changes_by ks Again i) x h))
      go Behind h = Contains-append_right (changes_by ks Lost i) (changes_by ks Never i ++ (changes_by ks Before i ++ (changes_by ks Behind i ++ changes_by ks Again i))) x (Contains-append_right (changes_by ks Never i) (changes_by ks Before i ++ (changes_by ks Behind i ++ changes_by ks Again i)) x (Contains-append_right (changes_by ks Before i) (changes_by ks Behind i ++ changes_by ks Again i) x (Contains-append_left (changes_by ks Behind i) (changes_by ks Again i) x h)))
      go Again h = Contains-append_right (changes_by ks Lost i) (changes_by ks Never i ++ (changes_by ks Before i ++ (changes_by ks Behind i ++ changes_by ks Again i))) x (Contains-append_right (changes_by ks Never i) (changes_by ks Before i ++ (changes_by ks Behind i ++ changes_by ks Again i)) x (Contains-append_right (changes_by ks Before i) (changes_by ks Behind i ++ changes_by ks Again i) x (Contains-append_right (changes_by ks Behind i) (changes_by ks Again i) x (h))))

  of_to : (n : ℕ) (x : Change) → Contains (changes_to ks n) x → is_change ks x ≡ true
  unfolding changes_to
  of_to zero x h = absurd (in_none x h)
  of_to (suc i) x h = go (of_to i x) (Contains-append_cases _ _ x h)
    where
      go : (Contains (changes_to ks i) x → is_change ks x ≡ true) → Contains (changes_to ks i) x ⊎ Contains (changes_of ks i) x → is_change ks x ≡ true
      go before (inl h) = before h
      go before (inr h) = of_of i x h

  has_to : (i n : ℕ) (x : Change) → i < n → Contains (changes_of ks i) x → Contains (changes_to ks n) x
  unfolding changes_to
  has_to i zero x lt h = absurd (omega (arith, lt))
  has_to i (suc n) x lt h = go (cases_lt i n) (λ less. has_to i n x less h)
    where
      go : (i < n) ⊎ (n ≤ i) → (i < n → Contains (changes_to ks n) x) → Contains (changes_to ks n ++ changes_of ks n) x
      go (inl less) before = Contains-append_left _ _ x (before less)
      go (inr most) before =
          let last : i ≡ n = omega (arith, lt, most) in
          Contains-append_right _ _ x (subst (λ i. Contains (changes_of ks i) x) last h)

  pub all_changes_hold : AreAllChanges ks (changes ks)
  unfolding changes
  all_changes_hold c = (λ h. there h, λ h. of_to (length ks) c h)
    where
      there : is_change ks c ≡ true → Contains (changes_to ks (length ks)) c
      there h =
          let at = within c h in
          let o = off_of c h in
          let same : change_at c.kind c.place o.distance ≡ c = ap (λ j. record { kind = c.kind; place = c.place; beside = j }) o.is in
          let put = subst (λ (x : Change). Contains (if_change ks x) c) (sym same) (has_if c h) in
          has_to c.place (length ks) c at.0 (has_of c.kind c.place c
          (has_within c.kind c.place o.distance (reach (length ks) c.kind c.place) c (o.reached at.0 at.1) put))

-- each change of the list stands within the run
pub change_within : (ks : List Kept) (cs : List Change) (p : ℕ) (c : Change) → cs ≡ changes ks → slice_get cs p ≡ Some c → (c.place < length ks) × (c.beside < length ks)
change_within ks cs p c is at = within ks c ((all_changes_hold ks c).1 (subst (λ (l : List Change). Contains l c) is (contains_at cs p c at)))
