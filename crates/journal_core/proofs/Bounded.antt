-- What is gathered by bounds is the future of a step.
use Rattle.std.proofs.Common.{◌≡◌, ◌⊎◌, inl, inr, ℕ, ◌+◌, ◌-◌, ◌<◌, ◌≤◌, ◌==◌, ◌&&◌, ◌||◌, nat_lt, Bool, true, false, List, [], ◌∷◌, ◌++◌, length}
use Rattle.std.proofs.Common.{reverse, slice_set, replicate, Option, Some, None, refl, sym, ap, ◌∙◌, subst, true≢false, arith}
use Rattle.std.specs.List.{AllByRecursion as Each, filter, list_any}
use Rattle.std.specs.List.{AllByRecursion as Every}
use Rattle.std.proofs.lemmas.Bool.{cases_eq, cases_lt, eq-eqb, and_parts, lt-ltb, le-ltb, ltb-true}
use Rattle.std.proofs.lemmas.List.{get_or-set_same, get_or-set_other, get_or-replicate, get_or_past, length-replicate, reverse-append}
use Rattle.std.proofs.lemmas.List.Sorted.{list_any-IsPermutation, IsPermutation-reverse}
use Rattle.journal_core.specs.Numbers.{RisesAbove}
use Rattle.journal_core.specs.Journals.{Kept, NumbersRise, delivers_from, find_number, numbers}
use Rattle.journal_core.specs.Futures.{Follows, Itself, Next, FallsBelow, Falls, IsFuture}
use Rattle.journal_core.specs.Causes.{AreKnown}
use Rattle.journal_core.specs.Bounds.{is_above, bound_at, reaches, IsGatheredUpTo}
use Rattle.journal_core.proofs.Each.{each_find, find_itself}
use Rattle.journal_core.proofs.Consequences.{numbers_rise}
use Rattle.journal_core.proofs.StepKinds.{both_true, for_each, positive, by_itself, in_list, from_list}

-- before anything is gathered

abbrev no_number : Option ℕ
no_number = None

module _ (ks : List Kept) (m : ℕ) (k : Kept) (nodes : ℕ) (rises : NumbersRise 0 ks) (known : AreKnown nodes ks)
    (found : find_number ks m ≡ Some k) where
  abbrev first_bounds : List (Option ℕ)
  first_bounds = slice_set (replicate nodes None) k.node (Some (m - 1))

  start_within : k.node < length (replicate nodes no_number)
  start_within = let low = each_find (λ (j : Kept). j.node < nodes) ks m k known found in let long = length-replicate nodes no_number in omega arith

  start_low : 0 < m
  start_low = let p = positive ks m k rises found in let e = find_itself ks m k found in omega arith

  start_here : reaches first_bounds k ≡ true
  start_here = ap (λ o. is_above o k.number) (get_or-set_same (replicate nodes None) k.node (Some (m - 1)) None start_within) ∙ lt-ltb
      (m - 1) k.number (let e = find_itself ks m k found in let p = start_low in omega arith)

  no_bound : (n i : ℕ) → bound_at (replicate n None) i ≡ None
  no_bound n i = go (cases_lt i n)
    where
      go : (i < n) ⊎ (n ≤ i) → bound_at (replicate n None) i ≡ None
      go (inl low) = get_or-replicate n i None None low
      go (inr high) = get_or_past (replicate n None) i None (let long = length-replicate n no_number in omega arith)

  start_reached : (j : Kept) → reaches first_bounds j ≡ true → (k.node ≡ j.node) × (m ≤ j.number)
  start_reached j h = go (cases_eq j.node k.node)
    where
      go : (j.node ≡ k.node) ⊎ (j.node ≡ k.node → ⊥) → (k.node ≡ j.node) × (m ≤ j.number)
      go (inl e) =
          let at : nat_lt (m - 1) j.number ≡ true = ap (λ o. is_above o j.number)
          (sym (ap (bound_at first_bounds) e ∙ get_or-set_same (replicate nodes None) k.node (Some (m - 1)) None start_within)) ∙ h in
          let high = ltb-true (m - 1) j.number at in
          (sym e, omega arith)
      go (inr apart) = absurd
          (let wrong : false ≡ true = ap (λ o. is_above o j.number)
          (sym (get_or-set_other (replicate nodes None) k.node j.node (Some (m - 1)) None apart ∙ no_bound nodes j.node)) ∙ h in cc)

  start_out : (j : Kept) → (reaches first_bounds j && nat_lt j.number m) ≡ false
  start_out j = go (reaches first_bounds j) refl
    where
      go : (b : Bool) → reaches first_bounds j ≡ b → (b && nat_lt j.number m) ≡ false
      go false is = refl
      go true is = le-ltb j.number m (start_reached j is).1

  none_such : (test : Kept → Bool) (js : List Kept) → Each (λ j. test j ≡ false) js → numbers (filter test js) ≡ []
  none_such test [] all = refl
  none_such test (j ∷ js) all = rw all.0 (none_such test js all.1)

  start_sound : (j : Kept) → find_number ks j.number ≡ Some j → (k.node ≡ j.node) × (m ≤ j.number) → (j.number ≡ m) ⊎ (j.number ≡ m → ⊥) →
      Follows ks m j.number
  start_sound j f h (inl e) = subst (Follows ks m) (sym e) (Itself k found)
  start_sound j f h (inr apart) =
      let number = find_itself ks m k found in
      let itself = by_itself ks m k rises found in
      Next k j (subst (Follows ks m) (sym number) (Itself k found)) itself f
      (ap (λ b. b || delivers_from ks j k)
      (both_true (k.node == j.node) (nat_lt k.number j.number) (eq-eqb k.node j.node h.0)
      (lt-ltb k.number j.number (let high = h.1 in omega arith))))

  pub starts : IsGatheredUpTo ks m [] first_bounds (Some m)
  starts =
      record {
        gathered = sym (none_such (λ j. reaches first_bounds j && nat_lt j.number m) ks
            (for_each (λ j. (reaches first_bounds j && nat_lt j.number m) ≡ false) ks rises (λ j f. start_out j)));
        upcoming = (k, found, start_here);
        start = λ j f. let one : Some k ≡ Some j =
            sym found ∙ f in let same : k ≡ j = cc in subst (λ (x : Kept). reaches first_bounds x ≡ true) same start_here;
        sound = λ j f h. start_sound j f (start_reached j h) (cases_eq j.number m);
        closed = λ x j fx fj h before follows. absurd
            (true≢false (sym (both_true (reaches first_bounds x) (nat_lt x.number m) h before) ∙ start_out x));
      }

-- when nothing is left, the future is gathered

falls_end : (m n : ℕ) (ns : List ℕ) → FallsBelow m ns → Every (λ x. n < x) ns → n < m → FallsBelow m (ns ++ n ∷ [])
falls_end m n [] falls all below_it = (below_it, tt)
falls_end m n (x ∷ ns) falls all below_it = (falls.0, falls_end x n ns falls.1 all.1 all.0)

every_push : (P : ℕ → Type 0) (n : ℕ) (ns : List ℕ) → Every P ns → P n → Every P (ns ++ n ∷ [])
every_push P n [] all h = (h, tt)
every_push P n (x ∷ ns) all h = (all.0, every_push P n ns all.1 h)

every_above : (a n : ℕ) (ns : List ℕ) → a < n → Every (λ x. n < x) ns → Every (λ x. a < x) ns
every_above a n [] low all = tt
every_above a n (x ∷ ns) low all = (let first = all.0 in omega arith, every_above a n ns low all.1)

falls_back : (a : ℕ) (ns : List ℕ) → RisesAbove a ns → (m : ℕ) × (a < m) × FallsBelow m (reverse ns) × Every (λ x. a < x) (reverse ns)
falls_back a [] rises = (a + 1, omega arith, tt, tt)
falls_back a (n ∷ ns) rises =
    let more = falls_back n ns rises.1 in
    let low : a < n = rises.0 in
    let high : n < more.0 = more.1 in
    let turned : reverse (n ∷ ns) ≡ reverse ns ++ n ∷ [] = reverse-append (n ∷ []) ns in (
      more.0,
      omega arith,
      subst (FallsBelow more.0) (sym turned) (falls_end more.0 n (reverse ns) more.2 more.3 more.1),
      subst (Every (λ x. a < x)) (sym turned) (every_push (λ x. a < x) n (reverse ns) (every_above a n (reverse ns) low more.3) low),
    )

falls_from : (m : ℕ) (ns : List ℕ) → FallsBelow m ns → Falls ns
falls_from m [] h = tt
falls_from m (n ∷ ns) h = h.1

module _ (ks : List Kept) (n : ℕ) (ns : List ℕ) (bs : List (Option ℕ)) (rises : NumbersRise 0 ks) (all : IsGatheredUpTo ks n ns bs None) where
  reached_all : (j : ℕ) → Follows ks n j → (k : Kept) × (find_number ks j ≡ Some k) × (k.number ≡ j) × (reaches bs k ≡ true)
  reached_all _ (Itself k found) = (k, found, find_itself ks n k found, all.start k found)
  reached_all _ (Next k j earlier fk fj follows) =
      let h = reached_all k.number earlier in
      let one : Some h.0 ≡ Some k = sym h.1 ∙ fk in
      let same : h.0 ≡ k = cc in
      (j, fj, refl, all.closed k j fk fj (subst (λ (x : Kept). reaches bs x ≡ true) same h.3) refl follows)

  in_future : (j : ℕ) → Follows ks n j → list_any (λ m. m == j) ns ≡ true
  in_future j h =
      let k = reached_all j h in
      ap (list_any (λ m. m == j)) all.gathered ∙ in_list (λ k. reaches bs k && true) k.0 j ks k.1 (both_true (reaches bs k.0) true k.3 refl)

  of_future : (j : ℕ) → list_any (λ m. m == j) ns ≡ true → Follows ks n j
  of_future j h =
      let at = from_list (λ k. find_number ks k.number ≡ Some k) (λ k. reaches bs k && true) j ks (for_each _ ks rises (λ k f. f))
      (ap (list_any (λ m. m == j)) (sym all.gathered) ∙ h) in
      subst (Follows ks n) at.1 (all.sound at.0 at.2 (and_parts (reaches bs at.0) true at.3).0)

  pub is_future : IsFuture ks n (reverse ns)
  is_future =
      let turned = λ (j : ℕ). list_any-IsPermutation (λ m. m == j) ns (reverse ns) (IsPermutation-reverse ns) in
      let falls = falls_back 0 ns (subst (RisesAbove 0) (sym all.gathered) (numbers_rise 0 (λ k. reaches bs k && true) ks rises)) in
      record {
        follows = λ j. ((λ h. of_future j (turned j ∙ h)), (λ h. sym (turned j) ∙ in_future j h));
        falls = falls_from falls.0 (reverse ns) falls.2;
      }

-- a step that isn't found has no future
nothing_follows : (ks : List Kept) (n j : ℕ) → find_number ks n ≡ None → Follows ks n j → ⊥
nothing_follows ks n _ none (Itself k found) = let wrong : None ≡ Some k = sym none ∙ found in absurd (cc)
nothing_follows ks n _ none (Next k j earlier fk fj follows) = nothing_follows ks n k.number none earlier

pub no_future : (ks : List Kept) (n : ℕ) → find_number ks n ≡ None → IsFuture ks n []
no_future ks n none = record { follows = λ j. ((λ h. absurd (cc)), (λ h. absurd (nothing_follows ks n j none h))); falls = tt }
