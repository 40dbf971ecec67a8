-- Walks over entries: what is left of one, and what is found on it.
use Rattle.std.proofs.Common.{◌≡◌, ◌↔◌, ℕ, zero, suc, ◌+◌, ◌<◌, ◌≤◌, Bool, true, false, cond, ◌&&◌, ◌==◌, T, List, [], ◌∷◌, ◌++◌, length, map, filter, drop, slice_get}
use Rattle.std.proofs.Common.{Option, Some, None, Ordering, Less, Equal, Greater, ◌⊎◌, inl, inr, refl, sym, ap, subst, ◌∙◌, arith, IsTrue}
use Rattle.std.proofs.lemmas.List.{length-map, map-append}
use Rattle.std.specs.List.{AllByRecursion}
use Rattle.std.specs.Option.{option_map, MatchOption}
use Rattle.std.specs.Ordering.{is_lt}
use Rattle.std.specs.FinMap as fin
use Rattle.dots_core.specs.declared.dot.Dot.{Dot}
use Rattle.dots_core.specs.Dots.{IsBelow, IsFrom, dot_cmp}
use Rattle.dots_core.proofs.Order.{dot_exact, less}
use Rattle.block_core.proofs.Collected.{entries-retain}
use Rattle.entry_core.proofs.EntryLists.{entries_back, turned}
use Rattle.entry_core.specs.Presences.{Presence, Entry, Entries, dots_of, entries_of_names, entry_of, presence_of}
use Rattle.entry_core.specs.EntryLists.{IsPlaceFrom, Rises, pair_of, pairs}
use Rattle.block_core.proofs.PlacesFrom.{below_less, from_earlier}
use Rattle.block_core.specs.Blocks.{Block, live_map}
use Rattle.entry_core.specs.Lists.{live_ones}
use Rattle.block_core.specs.Sets.{AreBlocks, joined, listed, listed_in, set_map}
use Rattle.block_core.proofs.MaskedEntries.{entries_live, where_filter}
use Rattle.block_core.proofs.SetMaps.{are_filter, entries_set, named_map}

abbrev plain : Dot × Presence → Entry
plain p = entry_of p.0 p.1

-- the live entries, as a list
pub listed_live : (live : ℕ) (es : List Entry) → Rises es → listed (live_map live es) ≡ live_ones live es
listed_live live es up = ap (map plain) (entries_live live es up) ∙ entries_back (live_ones live es)

-- blocks, as a list

pub listed_joined : (bs : List Block) → listed_in bs ≡ map plain (joined bs)
listed_joined [] = refl
listed_joined (b ∷ bs) = ap (λ es. listed b.map ++ es) (listed_joined bs) ∙ sym (map-append plain (fin.entries b.map) (joined bs))

pub listed_set : (bs : List Block) → AreBlocks bs → listed_in bs ≡ listed (set_map bs)
listed_set bs are = listed_joined bs ∙ ap (map plain) (sym (entries_set bs are))

pub listed_all : (bs : List Block) → AreBlocks bs → listed_in (filter (λ (b : Block). true) bs) ≡ listed (set_map bs)
listed_all bs are = ap listed_in (all bs) ∙ listed_set bs are
  where
    all : (bs : List Block) → filter (λ (b : Block). true) bs ≡ bs
    all [] = refl
    all (b ∷ bs) = ap (λ cs. b ∷ cs) (all bs)

pub listed_name : (name : ℕ) (bs : List Block) → AreBlocks bs →
    listed_in (filter (λ (b : Block). b.name == name) bs) ≡ listed (entries_of_names (λ n. n == name) (set_map bs))
listed_name name bs are =
    listed_set (filter (λ (b : Block). b.name == name) bs) (are_filter (λ (b : Block). b.name == name) bs are)
    ∙ ap listed (named_map (λ n. n == name) bs are)

-- two maps are one where their lists are

listed_same : (m n : Entries) → listed m ≡ listed n → m ≡ n
listed_same m n same = fin.same_entries_map m n (sym (back (fin.entries m)) ∙ ap pairs same ∙ back (fin.entries n))
  where
    back : (ps : List (Dot × Presence)) → pairs (map plain ps) ≡ ps
    back [] = refl
    back (p ∷ ps) = ap (λ qs. p ∷ qs) (back ps)

pub maps_same : (r : Bool) (m n : Entries) → IsTrue r ↔ (listed m ≡ listed n) → IsTrue r ↔ (m ≡ n)
maps_same r m n same = (λ held. listed_same m n (same.0 held), λ is. same.1 (ap listed is))

-- the dots of those that pass a test, by a walk over a name

module _ (name : ℕ) (test : Presence → Bool) where
  abbrev of_name : List (Dot × Presence) → List (Dot × Presence)
  of_name ps = filter (λ (p : Dot × Presence). p.0.name == name) ps

  abbrev both : List (Dot × Presence) → List (Dot × Presence)
  both ps = filter (λ (p : Dot × Presence). (p.0.name == name) && test p.1) ps

  abbrev tested : List Entry → List Entry
  tested es = filter (λ (e : Entry). test (presence_of e)) es

  tested_both : (ps : List (Dot × Presence)) → map (λ (e : Entry). e.dot) (tested (map plain (of_name ps))) ≡ map (λ (p : Dot × Presence). p.0) (both ps)
  tested_both [] = refl
  tested_both (p ∷ ps) =
      let rest = tested_both ps in
      elim (p.0.name == name) as (λ a. map (λ (e : Entry). e.dot) (tested (map plain (cond a (p ∷ of_name ps) (of_name ps)))) ≡
      map (λ (p : Dot × Presence). p.0) (cond (a && test p.1) (p ∷ both ps) (both ps))) [
        | true ↦
            elim (test p.1) as (λ b. map (λ (e : Entry). e.dot) (cond b (plain p ∷ tested (map plain (of_name ps))) (tested (map plain (of_name ps)))) ≡
            map (λ (p : Dot × Presence). p.0) (cond b (p ∷ both ps) (both ps))) [
              | true ↦ ap (λ ds. p.0 ∷ ds) rest
              | false ↦ rest
            ]
        | false ↦ rest
      ]

  pub dots_walked : (m : Entries) →
      map (λ (e : Entry). e.dot) (filter (λ (e : Entry). test (presence_of e)) (listed (entries_of_names (λ n. n == name) m))) ≡ dots_of name test m
  dots_walked m =
      ap (λ ps. map (λ (e : Entry). e.dot) (tested (map plain ps)))
      (entries-retain m (λ d. d.name == name) ∙ where_filter (λ d. d.name == name) (fin.entries m))
      ∙ tested_both (fin.entries m)

-- places

module _ {X : Type 0} where
  pub none_past : (xs : List X) (i k : ℕ) → drop i xs ≡ [] → i ≤ k → slice_get xs k ≡ None
  none_past [] i k end le = refl
  none_past (x ∷ xs) zero k end le = absurd (cc)
  none_past (x ∷ xs) (suc i) zero end le = absurd (omega (arith, le))
  none_past (x ∷ xs) (suc i) (suc k) end le = none_past xs i k end (omega (arith, le))

  pub head_at : (xs : List X) (k : ℕ) (x : X) (rest : List X) → drop k xs ≡ x ∷ rest → Some x ≡ slice_get xs k
  head_at [] zero x rest at = absurd (cc)
  head_at [] (suc k) x rest at = absurd (cc)
  head_at (y ∷ xs) zero x rest at = let same : y ≡ x = cc in ap Some (sym same)
  head_at (y ∷ xs) (suc k) x rest at = head_at xs k x rest at

  pub rest_at : (xs : List X) (k : ℕ) (x : X) (rest : List X) → drop k xs ≡ x ∷ rest → rest ≡ drop (k + 1) xs
  rest_at [] zero x rest at = absurd (cc)
  rest_at [] (suc k) x rest at = absurd (cc)
  rest_at (y ∷ xs) zero x rest at =
      let same : xs ≡ rest = cc in
      let more : suc zero ≡ zero + 1 = omega arith in
      sym same ∙ ap (λ n. drop n (y ∷ xs)) more
  rest_at (y ∷ xs) (suc k) x rest at =
      let more : suc (k + 1) ≡ suc k + 1 = omega arith in
      rest_at xs k x rest at ∙ ap (λ n. drop n (y ∷ xs)) more

  pub first_at : (o : Option X) (xs rest : List X) (k : ℕ) → MatchOption o (drop k xs ≡ []) (λ x. drop k xs ≡ x ∷ rest) → o ≡ slice_get xs k
  first_at None xs rest k h = sym (none_past xs k k h (omega arith))
  first_at (Some x) xs rest k h = head_at xs k x rest h

  pub end_at : (xs : List X) (k : ℕ) → drop k xs ≡ [] → length xs ≤ k
  end_at [] k end = omega arith
  end_at (x ∷ xs) zero end = absurd (cc)
  end_at (x ∷ xs) (suc k) end = let more = end_at xs k end in omega (arith, more)

pub get_map : {X Y : Type 0} (f : X → Y) (xs : List X) (i : ℕ) → slice_get (map f xs) i ≡ option_map f (slice_get xs i)
get_map f [] i = refl
get_map f (x ∷ xs) zero = refl
get_map f (x ∷ xs) (suc i) = get_map f xs i

-- the entry at a place stands there with its presence
pub pair_at : (ps : List (Dot × Presence)) (k : ℕ) (e : Entry) → Some e ≡ slice_get (map plain ps) k → slice_get ps k ≡ Some (pair_of e)
pair_at [] k e at = absurd (cc)
pair_at (p ∷ ps) zero e at = let same : e ≡ plain p = cc in ap Some (sym (ap pair_of same))
pair_at (p ∷ ps) (suc k) e at = pair_at ps k e at

pub place_within : (ps : List (Dot × Presence)) (k : ℕ) (p : Dot × Presence) → slice_get ps k ≡ Some p → k < length ps
place_within [] k p at = absurd (cc)
place_within (q ∷ ps) zero p at = omega arith
place_within (q ∷ ps) (suc k) p at = let more = place_within ps k p at in omega (arith, more)

module _ (d : Dot) where
  from_of : (a : Dot) (o : Ordering) → dot_cmp a d ≡ o → is_lt o ≡ false → IsFrom d a
  from_of a Less at high = absurd (cc)
  from_of a Equal at high =
      let same : d ≡ a = sym (dot_exact a d at) in
      let clock = ap (λ (q : Dot). q.clock) same in inr (ap (λ (q : Dot). q.name) same, omega (arith, clock))
  from_of a Greater at high = go (below_less d a (turned a d Greater at))
    where
      go : IsBelow d a → IsFrom d a
      go (inl name) = inl name
      go (inr both) = let clock = both.1 in inr (both.0, omega (arith, clock))

  from_then : (a b : Dot) → IsFrom d a → IsFrom a b → IsFrom d b
  from_then a b (inl x) (inl y) = inl (omega (arith, x, y))
  from_then a b (inl x) (inr y) = let name = y.0 in inl (omega (arith, x, name))
  from_then a b (inr x) (inl y) = let name = x.0 in inl (omega (arith, y, name))
  from_then a b (inr x) (inr y) = let one = x.1 in let two = y.1 in inr (x.0 ∙ y.0, omega (arith, one, two))

  -- those before the place are below
  abbrev pub AreBelow : List (Dot × Presence) → ℕ → Type 0
  AreBelow ps i = (k : ℕ) (p : Dot × Presence) → k < i → slice_get ps k ≡ Some p → IsBelow p.0 d

  pub below_more : (ps : List (Dot × Presence)) (i : ℕ) (q : Dot × Presence) → AreBelow ps i → slice_get ps i ≡ Some q → is_lt (dot_cmp q.0 d) ≡ true →
      AreBelow ps (i + 1)
  below_more ps i q so_far at low = λ k p under is. go k p is (split k under)
    where
      split : (k : ℕ) → k < i + 1 → (k < i) ⊎ (k ≡ i)
      split k under = grind (arith)

      go : (k : ℕ) (p : Dot × Presence) → slice_get ps k ≡ Some p → (k < i) ⊎ (k ≡ i) → IsBelow p.0 d
      go k p is (inl before) = so_far k p before is
      go k p is (inr here) =
          let both : Some p ≡ Some q = sym is ∙ ap (slice_get ps) here ∙ at in
          let same : p ≡ q = cc in
          subst (λ (x : Dot × Presence). IsBelow x.0 d) (sym same) (below_less q.0 d (less (dot_cmp q.0 d) (subst T (sym low) tt)))

  pub stops_at : (m : Entries) (i : ℕ) (q : Dot × Presence) → AreBelow (fin.entries m) i → slice_get (fin.entries m) i ≡ Some q →
      is_lt (dot_cmp q.0 d) ≡ false → IsPlaceFrom d (fin.entries m) i
  stops_at m i q so_far at high = record {
    within = let inside = place_within (fin.entries m) i q at in omega (arith, inside);
    below = so_far;
    from = λ k p over is.
        from_then q.0 p.0 (from_of q.0 (dot_cmp q.0 d) refl high) (from_earlier (fin.entries m) (fin.entries_sorted m) i k q p over at is);
  }

  pub ends_at : (m : Entries) (i : ℕ) → AreBelow (fin.entries m) i → i ≤ length (fin.entries m) → length (fin.entries m) ≤ i →
      IsPlaceFrom d (fin.entries m) i
  ends_at m i so_far within end = record {
    within = within;
    below = so_far;
    from = λ k p over is. absurd (let inside = place_within (fin.entries m) k p is in omega (arith, inside, over, end));
  }

pub len_listed : (m : Entries) → fin.len m ≡ length (listed m)
len_listed m = fin.len-entries m ∙ sym (length-map (fin.entries m) plain)

pub all_front : {X : Type 0} (P : X → Type 0) (xs : List X) (y : X) → AllByRecursion P (xs ++ y ∷ []) → AllByRecursion P xs
all_front P [] y h = tt
all_front P (x ∷ xs) y h = (h.0, all_front P xs y h.1)
