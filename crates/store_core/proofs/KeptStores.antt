-- Each edit of a store with its delta keeps what each such store keeps; and what that tells of the fresh dot and of the last.
use Rattle.std.proofs.Common.{◌≡◌, ◌≢◌, ◌⊎◌, inl, inr, ℕ, ◌+◌, ◌-◌, ◌<◌, ◌≤◌, ◌==◌, ◌&&◌, ◌||◌, not, Bool, true, false, cond, All, List, [], ◌∷◌}
use Rattle.std.proofs.Common.{length, Option, Some, None, is_some, refl, sym, ap, ◌∙◌, subst, arith, true≢false}
use Rattle.std.proofs.Math.Bool.{or-false}
use Rattle.std.proofs.lemmas.Bool.{and_parts, false_from_ne_true, ne_eqb, or_cases, cases_lt}
use Rattle.std.proofs.lemmas.List.Elements.{All-nil, All-cons}
use Rattle.std.specs.FinMap as fin
use Rattle.std.specs.FinSet as set
use Rattle.dots_core.specs.declared.dot.Dot.{Dot}
use Rattle.dots_core.specs.Dots.{Dots, dot, dot_cmp, IsValid, AreValid, HasClocks, count_of, of_names}
use Rattle.dots_core.specs.Contexts.{IsContext, IsLast, IsNext}
use Rattle.dots_core.proofs.Order.{dot_cases}
use Rattle.dots_core.proofs.Sets.{same_dots, contains-retain, contains_inserted, contains_insert_more, inserted_cases, of_names_cases}
use Rattle.dots_core.proofs.OwnClock.{not_fresh, count_more, clocks_more, clocks_same}
use Rattle.entry_core.specs.EntryLists.{pairs}
use Rattle.entry_core.specs.Presences.{Presence, Entries, Entry, entry_of, presence_of}
use Rattle.block_core.proofs.EntryMaps.{get_inserted, get_insert_other, get_removed, get_remove_other, get-names}
use Rattle.payload_core.specs.Messages.{Message, AreSeen}
use Rattle.payload_core.proofs.SeenEntries.{seen_none, seen-insert, seen-remove, seen-names}
use Rattle.store_core.specs.DeltaStores.{AreOwn, CanBeDelta, DeltaStore, IsDeltaStore, dropped, empty, fresh, joined, last, left, left_each, own_clock, ticked}
use Rattle.store_core.specs.DeltaStores.{with_delta, with_left, with_lefts, without_delta}
use Rattle.store_core.specs.LeavesTogether.{dots_before_each, entries_left, left_delta, left_store, unsent_left, with_dots, with_next, without_next}
use Rattle.store_core.specs.LeftEntries.{Left, dots_before, put}
use Rattle.store_core.specs.EntryMoves.{with_each, without_each}
use Rattle.store_core.specs.Stores.{Store, is_other, merged, part, store_of}
use Rattle.store_core.proofs.SeenTogether.{next_first, with_one_more}
use Rattle.store_core.proofs.StoreMerges.{contains-merged, entry_after, get-merged}

-- the store of nothing

no_dot : (d : Dot) → set.contains {R = dot_cmp} set.empty d ≡ true → ⊥
no_dot d e = true≢false (sym e ∙ set.contains-empty dot_cmp d)

no_entry : (d : Dot) (p : Presence) → fin.get {R = dot_cmp} fin.empty d ≡ Some p → ⊥
no_entry d p e = let none = fin.get-empty {X = Presence} dot_cmp d in cc

no_count : (own : ℕ) → count_of own set.empty ≡ 0
no_count own =
    ap set.len (same_dots (of_names (λ n. n == own) set.empty) set.empty
    (λ q. contains-retain set.empty (λ d. d.name == own) q ∙ ap (λ b. b && (q.name == own)) (set.contains-empty dot_cmp q)
    ∙ sym (set.contains-empty dot_cmp q))) ∙ set.len-empty dot_cmp

pub kept_empty : (own : ℕ) → own < 32 → IsDeltaStore (empty own)
kept_empty own name = record {
  name = name;
  valid = λ d e. absurd (no_dot d e);
  clocks = λ k. ((λ e. absurd (no_dot (dot own k) e)), (λ h. absurd (let none = no_count own in omega arith)));
  live = seen_none set.empty;
  delta_live = seen_none set.empty;
  delta_own = λ d e. absurd (no_dot d e);
  delta_in = λ d p e. absurd (no_entry d p e);
}

-- the context clock of a name whose dots have no gap counts them
pub own_context : (own c : ℕ) (s : Dots) → HasClocks own s → IsContext s own c → c ≡ count_of own s
own_context own c s clocks context = go (cases_lt c (count_of own s)) (cases_lt (count_of own s) c)
  where
    go : (c < count_of own s) ⊎ (count_of own s ≤ c) → (count_of own s < c) ⊎ (c ≤ count_of own s) → c ≡ count_of own s
    go (inl below) more = absurd (true≢false (sym ((clocks (c + 1)).1 (omega arith, omega arith)) ∙ context.greatest))
    go (inr least) (inl above) = let own_one = (clocks (count_of own s + 1)).0
        ((context.all (count_of own s + 1) (omega arith)).1 (omega arith)) in absurd (omega arith)
    go (inr least) (inr most) = omega arith

-- the entries after one was put in, or taken out

pub inserted_entry : (m : Entries) (k q : Dot) (v p : Presence) → fin.get (fin.insert m k v) q ≡ Some p →
    ((q ≡ k) × (p ≡ v)) ⊎ ((q ≢ k) × (fin.get m q ≡ Some p))
inserted_entry m k q v p e = go (dot_cases q k)
  where
    go : (q ≡ k) ⊎ (q ≢ k) → ((q ≡ k) × (p ≡ v)) ⊎ ((q ≢ k) × (fin.get m q ≡ Some p))
    go (inl same) = let at : Some p ≡ Some v = sym e ∙ ap (fin.get (fin.insert m k v)) same ∙ get_inserted m k v in inl (same, cc)
    go (inr other) = inr (other, sym (get_insert_other m k q v other) ∙ e)

pub removed_entry : (m : Entries) (k q : Dot) (p : Presence) → fin.get (fin.remove m k) q ≡ Some p → (q ≢ k) × (fin.get m q ≡ Some p)
removed_entry m k q p e = go (dot_cases q k)
  where
    go : (q ≡ k) ⊎ (q ≢ k) → (q ≢ k) × (fin.get m q ≡ Some p)
    go (inl same) = let none : None ≡ Some p = sym (get_removed m k) ∙ ap (fin.get (fin.remove m k)) (sym same) ∙ e in absurd (cc)
    go (inr other) = (other, sym (get_remove_other m k q other) ∙ e)

module _ (s : DeltaStore) (h : IsDeltaStore s) where
  -- the own clock is in range
  pub clock_within : own_clock s ≤ 1000000000
  clock_within = go (cases_lt 0 (own_clock s))
    where
      go : (0 < own_clock s) ⊎ (own_clock s ≤ 0) → own_clock s ≤ 1000000000
      go (inl some) = (h.valid (last s) ((h.clocks (own_clock s)).1 (some, omega arith))).last
      go (inr none) = omega arith

  -- the fresh dot can be put in
  pub fresh_valid : own_clock s < 1000000000 → IsValid (fresh s)
  fresh_valid free = record { name = h.name; first = omega arith; last = omega arith }

  -- its clock is the next one
  pub fresh_next : IsNext (fresh s) s.store.seen
  fresh_next = (
    own_clock s,
    refl,
    record {
      all = λ k le. ((λ e. let c = (h.clocks k).0 e in c.0), (λ pos. (h.clocks k).1 (pos, le)));
      greatest = not_fresh s.own s.store.seen h.clocks;
    },
  )

  -- it was not seen, and is none of the delta
  pub fresh_unseen : set.contains s.store.seen (fresh s) ≡ false
  fresh_unseen = not_fresh s.own s.store.seen h.clocks

  pub fresh_unsent : set.contains s.delta.seen (fresh s) ≡ false
  fresh_unsent = false_from_ne_true _ (λ e. true≢false (sym (h.delta_own (fresh s) e).1 ∙ fresh_unseen))

  -- no own dot above the last was seen

  pub above_last : (k : ℕ) → own_clock s < k → set.contains s.store.seen (dot s.own k) ≡ false
  above_last k above = false_from_ne_true _ (λ e. let c = (h.clocks k).0 e in absurd (omega (arith, c.1, above)))

  pub last_is_last : IsLast (last s) s.store.seen
  last_is_last k above = above_last k above

  pub last_in_delta : IsLast (last s) s.delta.seen
  last_in_delta k above = false_from_ne_true _ (λ e. true≢false (sym (h.delta_own (dot s.own k) e).1 ∙ above_last k above))

  pub last_valid : 0 < own_clock s → IsValid (last s)
  last_valid some = let low = clock_within in record { name = h.name; first = omega arith; last = omega arith }

  -- the fresh dot is above all own dots, in the delta too
  pub fresh_is_last : IsLast (fresh s) s.delta.seen
  fresh_is_last k above = false_from_ne_true _ (λ e. true≢false (sym (h.delta_own (dot s.own k) e).1 ∙ above_last k (omega (arith, above))))

  -- it has no entry
  pub fresh_absent : fin.get s.store.entries (fresh s) ≡ None
  fresh_absent = go (fin.get s.store.entries (fresh s)) refl
    where
      go : (o : Option Presence) → fin.get s.store.entries (fresh s) ≡ o → o ≡ None
      go None is = refl
      go (Some p) is = absurd (true≢false (sym (h.live (fresh s) (ap is_some is)) ∙ not_fresh s.own s.store.seen h.clocks))

  -- nor has it one in the delta
  pub fresh_absent_in_delta : fin.get s.delta.entries (fresh s) ≡ None
  fresh_absent_in_delta = go (fin.get s.delta.entries (fresh s)) refl
    where
      go : (o : Option Presence) → fin.get s.delta.entries (fresh s) ≡ o → o ≡ None
      go None is = refl
      go (Some p) is = let entry = h.delta_in (fresh s) p is in let none = fresh_absent in absurd (cc)

  joined_valid : own_clock s < 1000000000 → (d : Dot) → (d ≡ fresh s) ⊎ (set.contains s.store.seen d ≡ true) → IsValid d
  joined_valid free d (inl e) = subst IsValid (sym e) (fresh_valid free)
  joined_valid free d (inr e) = h.valid d e

  joined_delta_own : (d : Dot) → (d ≡ fresh s) ⊎ (set.contains s.delta.seen d ≡ true) →
      (d.name ≡ s.own) × (set.contains (set.insert s.store.seen (fresh s)) d ≡ true)
  joined_delta_own d (inl e) = (ap (λ (d : Dot). d.name) e, ap (set.contains (set.insert s.store.seen (fresh s))) e ∙ contains_inserted s.store.seen (fresh s))
  joined_delta_own d (inr e) = let old = h.delta_own d e in (old.0, contains_insert_more s.store.seen (fresh s) d old.1)

  joined_delta_in : (p : Presence) (d : Dot) (q : Presence) → ((d ≡ fresh s) × (q ≡ p)) ⊎
      ((d ≢ fresh s) × (fin.get s.delta.entries d ≡ Some q)) → fin.get (fin.insert s.store.entries (fresh s) p) d ≡ Some q
  joined_delta_in p d q (inl e) = ap (fin.get (fin.insert s.store.entries (fresh s) p)) e.0 ∙ get_inserted s.store.entries (fresh s) p ∙ ap Some (sym e.1)
  joined_delta_in p d q (inr e) = get_insert_other s.store.entries (fresh s) d p e.0 ∙ h.delta_in d q e.1

  pub kept_joined : (p : Presence) → own_clock s < 1000000000 → IsDeltaStore (joined p s)
  kept_joined p free = record {
    name = h.name;
    valid = λ d e. joined_valid free d (inserted_cases s.store.seen (fresh s) d e);
    clocks = clocks_more s.own s.store.seen h.clocks;
    live = seen-insert s.store.seen s.store.entries (fresh s) p h.live;
    delta_live = seen-insert s.delta.seen s.delta.entries (fresh s) p h.delta_live;
    delta_own = λ d e. joined_delta_own d (inserted_cases s.delta.seen (fresh s) d e);
    delta_in = λ d q e. joined_delta_in p d q (inserted_entry s.delta.entries (fresh s) d p q e);
  }

  -- what a leave does: its entry goes, and a fresh dot was seen

  dropped_delta_own : (x d : Dot) → x.name ≡ s.own → set.contains s.store.seen x ≡ true →
      (d ≡ x) ⊎ (set.contains s.delta.seen d ≡ true) → (d.name ≡ s.own) × (set.contains s.store.seen d ≡ true)
  dropped_delta_own x d mine there (inl e) = (ap (λ (d : Dot). d.name) e ∙ mine, ap (set.contains s.store.seen) e ∙ there)
  dropped_delta_own x d mine there (inr e) = h.delta_own d e

  pub kept_dropped : (x : Dot) → x.name ≡ s.own → set.contains s.store.seen x ≡ true → IsDeltaStore (dropped x s)
  kept_dropped x mine there = record {
    name = h.name;
    valid = h.valid;
    clocks = h.clocks;
    live = seen-remove s.store.seen s.store.entries x h.live;
    delta_live = λ d e. contains_insert_more s.delta.seen x d (seen-remove s.delta.seen s.delta.entries x h.delta_live d e);
    delta_own = λ d e. dropped_delta_own x d mine there (inserted_cases s.delta.seen x d e);
    delta_in = λ d p e. let old = removed_entry s.delta.entries x d p e in get_remove_other s.store.entries x d old.0 ∙ h.delta_in d p old.1;
  }

  pub kept_ticked : own_clock s < 1000000000 → IsDeltaStore (ticked s)
  kept_ticked free = record {
    name = h.name;
    valid = λ d e. joined_valid free d (inserted_cases s.store.seen (fresh s) d e);
    clocks = clocks_more s.own s.store.seen h.clocks;
    live = λ d e. contains_insert_more s.store.seen (fresh s) d (h.live d e);
    delta_live = λ d e. contains_insert_more s.delta.seen (fresh s) d (h.delta_live d e);
    delta_own = λ d e. joined_delta_own d (inserted_cases s.delta.seen (fresh s) d e);
    delta_in = h.delta_in;
  }

-- leaves

pub kept_left : (d : Dot) (s : DeltaStore) → IsDeltaStore s → d.name ≡ s.own → set.contains s.store.seen d ≡ true → own_clock s < 1000000000 →
    IsDeltaStore (left d s)
kept_left d s h mine there free = kept_ticked (dropped d s) (kept_dropped s h d mine there) free

own_after : (d : Dot) (s : DeltaStore) (ds : List Dot) → AreOwn ds s → AreOwn ds (left d s)
own_after d s [] own = tt
own_after d s (e ∷ ds) own = ((own.0.0, contains_insert_more s.store.seen (fresh s) e own.0.1), own_after d s ds own.1)

pub kept_left_each : (ds : List Dot) (s : DeltaStore) → IsDeltaStore s → AreOwn ds s → own_clock s + length ds ≤ 1000000000 →
    IsDeltaStore (left_each ds s)
kept_left_each [] s h own fits = h
kept_left_each (d ∷ ds) s h own fits =
    let more : own_clock (left d s) ≡ own_clock s + 1 = count_more s.own s.store.seen h.clocks in
    kept_left_each ds (left d s) (kept_left d s h own.0.0 own.0.1 (omega (arith, fits))) (own_after d s ds own.1) (omega (arith, fits, more))

pub own_valid : (ds : List Dot) (s : DeltaStore) → IsDeltaStore s → AreOwn ds s → All IsValid ds
own_valid [] s h own = All-nil IsValid
own_valid (d ∷ ds) s h own = All-cons IsValid d ds (h.valid d own.0.1) (own_valid ds s h own.1)

-- leaves in turn, as one edit of the two stores
pub left_each_parts : (ds : List Dot) (s : DeltaStore) → HasClocks s.own s.store.seen →
    left_each ds s ≡ record s { store = left_store s.own (own_clock s) ds s.store; delta = left_delta s.own (own_clock s) ds s.delta }
left_each_parts [] s clocks = refl
left_each_parts (d ∷ ds) s clocks =
    left_each_parts ds (left d s) (clocks_more s.own s.store.seen clocks)
    ∙ (λ i. record s {
      store = left_store s.own (count_more s.own s.store.seen clocks i) ds (left d s).store;
      delta = left_delta s.own (count_more s.own s.store.seen clocks i) ds (left d s).delta;
    })
    ∙ (λ i. record s {
      store = record {
        seen = next_first s.own (own_clock s) (length ds) s.store.seen i;
        entries = without_each ds (fin.remove s.store.entries d);
      };
      delta = record {
        seen =
            (ap (with_next s.own (own_clock s + 1) (length ds)) (with_one_more ds (set.insert s.delta.seen d) (fresh s))
            ∙ next_first s.own (own_clock s) (length ds) (with_dots ds (set.insert s.delta.seen d))) i;
        entries = without_each ds (fin.remove s.delta.entries d);
      };
    })

-- a delivery

live_after : (k s a : Bool) (e x : Option Presence) → (is_some e ≡ true → s ≡ true) → (is_some x ≡ true → a ≡ true) →
    is_some (entry_after k s e a x) ≡ true → (s || (k && a)) ≡ true
live_after k true a e x le lx h = refl
live_after true false true e x le lx h = refl
live_after true false false e None le lx h = le h
live_after true false false e (Some p) le lx h = lx refl
live_after false false a e x le lx h = le h

module _ (named : ℕ → Bool) (m : Message) (s : DeltaStore) (h : IsDeltaStore s) (others : named s.own ≡ false) (valid : AreValid m.seen)
    (live : AreSeen m.seen m.entries) where
  seen_more : (d : Dot) → set.contains s.store.seen d ≡ true → set.contains (merged named (store_of m) s.store).seen d ≡ true
  seen_more d e = contains-merged named (store_of m) s.store d ∙ ap (λ b. b || (named d.name && set.contains m.seen d)) e

  own_other : (d : Dot) → d.name ≡ s.own → named d.name ≡ false
  own_other d mine = ap named mine ∙ others

  merged_own : (d : Dot) → d.name ≡ s.own → set.contains s.store.seen d ≡ set.contains (merged named (store_of m) s.store).seen d
  merged_own d mine = sym (contains-merged named (store_of m) s.store d ∙ ap (λ b. set.contains s.store.seen d || (b && set.contains m.seen d))
      (own_other d mine) ∙ or-false (set.contains s.store.seen d))

  merged_valid : (d : Dot) → (set.contains s.store.seen d ≡ true) ⊎ ((named d.name && set.contains m.seen d) ≡ true) → IsValid d
  merged_valid d (inl e) = h.valid d e
  merged_valid d (inr e) = valid d (and_parts _ _ e).1

  own_entry : (d : Dot) → d.name ≡ s.own → fin.get (merged named (store_of m) s.store).entries d ≡ fin.get s.store.entries d
  own_entry d mine =
      get-merged named (store_of m) s.store d
      ∙ ap (λ k. entry_after k (set.contains s.store.seen d) (fin.get s.store.entries d) (set.contains m.seen d) (fin.get m.entries d)) (own_other d mine)

  pub kept_merged : IsDeltaStore (record s { store = merged named (store_of m) s.store })
  kept_merged = record {
    name = h.name;
    valid = λ d e. merged_valid d (or_cases _ _ (sym (contains-merged named (store_of m) s.store d) ∙ e));
    clocks = clocks_same s.own s.store.seen (merged named (store_of m) s.store).seen merged_own h.clocks;
    live = λ d e.
        contains-merged named (store_of m) s.store d
        ∙ live_after (named d.name) (set.contains s.store.seen d) (set.contains m.seen d) (fin.get s.store.entries d)
        (fin.get m.entries d) (h.live d) (live d) (ap is_some (sym (get-merged named (store_of m) s.store d)) ∙ e);
    delta_live = h.delta_live;
    delta_own = λ d e. let old = h.delta_own d e in (old.0, seen_more d old.1);
    delta_in = λ d p e. own_entry d (h.delta_own d (h.delta_live d (ap is_some e))).0 ∙ h.delta_in d p e;
  }

-- a name that was forgotten

and_true : (a : Bool) → (a && true) ≡ a
and_true true = refl
and_true false = refl

module _ (s : DeltaStore) (name : ℕ) (h : IsDeltaStore s) (other : name ≢ s.own) where
  apart : (d : Dot) → d.name ≡ s.own → is_other name d.name ≡ true
  apart d mine = ap not (ap (λ n. n == name) mine ∙ ne_eqb s.own name (λ e. other (sym e)))

  own_kept : (d : Dot) → d.name ≡ s.own → set.contains s.store.seen d ≡ set.contains (part (is_other name) s.store).seen d
  own_kept d mine = sym (contains-retain s.store.seen (λ d. is_other name d.name) d
      ∙ ap (λ b. set.contains s.store.seen d && b) (apart d mine) ∙ and_true (set.contains s.store.seen d))

  entry_kept : (d : Dot) → d.name ≡ s.own → fin.get (part (is_other name) s.store).entries d ≡ fin.get s.store.entries d
  entry_kept d mine = get-names s.store.entries (is_other name) d ∙ ap (λ b. cond b (fin.get s.store.entries d) None) (apart d mine)

  pub kept_forgotten : IsDeltaStore (record s { store = part (is_other name) s.store })
  kept_forgotten = record {
    name = h.name;
    valid = λ d e. h.valid d (of_names_cases s.store.seen (is_other name) d e).0;
    clocks = clocks_same s.own s.store.seen (part (is_other name) s.store).seen own_kept h.clocks;
    live = seen-names (is_other name) s.store.seen s.store.entries h.live;
    delta_live = h.delta_live;
    delta_own = λ d e. let old = h.delta_own d e in (old.0, sym (own_kept d old.0) ∙ old.1);
    delta_in = λ d p e. entry_kept d (h.delta_own d (h.delta_live d (ap is_some e))).0 ∙ h.delta_in d p e;
  }

-- the delta

pub kept_with_delta : (m : Message) (s : DeltaStore) → IsDeltaStore s → AreSeen m.seen m.entries → CanBeDelta m s → IsDeltaStore (with_delta m s)
kept_with_delta m s h live can = record {
  name = h.name;
  valid = h.valid;
  clocks = h.clocks;
  live = h.live;
  delta_live = live;
  delta_own = can.own;
  delta_in = can.live;
}

pub kept_without_delta : (s : DeltaStore) → IsDeltaStore s → IsDeltaStore (without_delta s)
kept_without_delta s h = record {
  name = h.name;
  valid = h.valid;
  clocks = h.clocks;
  live = h.live;
  delta_live = seen_none set.empty;
  delta_own = λ d e. absurd (no_dot d e);
  delta_in = λ d p e. absurd (no_entry d p e);
}

-- what an edit asks of the fresh dot and of the last, where `s` is the store as its fields say it

module _ (s now : DeltaStore) (same : s ≡ now) (h : IsDeltaStore s) where
  pub live_seen : (d : Dot) → fin.contains_key now.store.entries d ≡ true → set.contains s.store.seen d ≡ true
  live_seen d live = h.live d (ap (λ (s : DeltaStore). fin.contains_key s.store.entries d) same ∙ live)

  pub live_valid : (d : Dot) → fin.contains_key now.store.entries d ≡ true → IsValid d
  live_valid d live = h.valid d (live_seen d live)

  pub room_here : own_clock now < 1000000000 → own_clock s < 1000000000
  room_here = subst (λ (s : DeltaStore). own_clock s < 1000000000) (sym same)

  module _ (f : Dot) (is : f ≡ fresh now) where
    pub fresh_here : f ≡ fresh s
    fresh_here = is ∙ ap fresh (sym same)

    pub new_valid : own_clock now < 1000000000 → IsValid f
    new_valid free = subst IsValid (sym fresh_here) (fresh_valid s h (room_here free))

    pub new_next : IsNext f s.store.seen
    new_next = subst (λ d. IsNext d s.store.seen) (sym fresh_here) (fresh_next s h)

    pub new_last : IsLast f s.delta.seen
    new_last = subst (λ d. IsLast d s.delta.seen) (sym fresh_here) (fresh_is_last s h)

    pub new_unsent : set.contains s.delta.seen f ≡ false
    new_unsent = ap (set.contains s.delta.seen) fresh_here ∙ fresh_unsent s h

    pub new_absent : fin.get s.store.entries f ≡ None
    new_absent = ap (fin.get s.store.entries) fresh_here ∙ fresh_absent s h

    pub new_absent_in_delta : fin.get s.delta.entries f ≡ None
    new_absent_in_delta = ap (fin.get s.delta.entries) fresh_here ∙ fresh_absent_in_delta s h

  module _ (l : Dot) (is : l ≡ last now) where
    pub last_here : l ≡ last s
    last_here = is ∙ ap last (sym same)

    pub end_valid : 0 < own_clock now → IsValid l
    end_valid some = subst IsValid (sym last_here) (last_valid s h (subst (λ (s : DeltaStore). 0 < own_clock s) (sym same) some))

    pub end_last : IsLast l s.store.seen
    end_last = subst (λ d. IsLast d s.store.seen) (sym last_here) (last_is_last s h)

    pub end_in_delta : IsLast l s.delta.seen
    end_in_delta = subst (λ d. IsLast d s.delta.seen) (sym last_here) (last_in_delta s h)

-- what the steps of an edit made of the parts

module _ (s : DeltaStore) (seen delta_seen : Dots) (entries delta_entries : Entries) where
  pub joined_is : (e : Entry) (p : Presence) → e ≡ entry_of (fresh s) p →
      seen ≡ set.insert s.store.seen e.dot → entries ≡ fin.insert s.store.entries e.dot (presence_of e) →
      delta_seen ≡ set.insert s.delta.seen e.dot → delta_entries ≡ fin.insert s.delta.entries e.dot (presence_of e) →
      record { own = s.own; store = record { seen = seen; entries = entries }; delta = record { seen = delta_seen; entries = delta_entries } } ≡ joined p s
  joined_is e p is a b c d = λ i. record s {
    store = record {
      seen = (a ∙ ap (λ (e : Entry). set.insert s.store.seen e.dot) is) i;
      entries = (b ∙ ap (λ (e : Entry). fin.insert s.store.entries e.dot (presence_of e)) is) i;
    };
    delta = record {
      seen = (c ∙ ap (λ (e : Entry). set.insert s.delta.seen e.dot) is) i;
      entries = (d ∙ ap (λ (e : Entry). fin.insert s.delta.entries e.dot (presence_of e)) is) i;
    };
  }

  pub left_is : (x f : Dot) → f ≡ fresh s → seen ≡ set.insert s.store.seen f → entries ≡ fin.remove s.store.entries x →
      delta_seen ≡ set.insert (set.insert s.delta.seen x) f → delta_entries ≡ fin.remove s.delta.entries x →
      record { own = s.own; store = record { seen = seen; entries = entries }; delta = record { seen = delta_seen; entries = delta_entries } } ≡ left x s
  left_is x f is a b c d = λ i. record s {
    store = record { seen = (a ∙ ap (set.insert s.store.seen) is) i; entries = b i };
    delta = record { seen = (c ∙ ap (set.insert (set.insert s.delta.seen x)) is) i; entries = d i };
  }

  pub updated_is : (x : Dot) (e : Entry) (p : Presence) → e ≡ entry_of (fresh s) p →
      seen ≡ set.insert s.store.seen e.dot → entries ≡ fin.insert (fin.remove s.store.entries x) e.dot (presence_of e) →
      delta_seen ≡ set.insert (set.insert s.delta.seen x) e.dot → delta_entries ≡ fin.insert (fin.remove s.delta.entries x) e.dot (presence_of e) →
      record { own = s.own; store = record { seen = seen; entries = entries }; delta = record { seen = delta_seen; entries = delta_entries } }
      ≡ joined p (dropped x s)
  updated_is x e p is a b c d = λ i. record s {
    store = record {
      seen = (a ∙ ap (λ (e : Entry). set.insert s.store.seen e.dot) is) i;
      entries = (b ∙ ap (λ (e : Entry). fin.insert (fin.remove s.store.entries x) e.dot (presence_of e)) is) i;
    };
    delta = record {
      seen = (c ∙ ap (λ (e : Entry). set.insert (set.insert s.delta.seen x) e.dot) is) i;
      entries = (d ∙ ap (λ (e : Entry). fin.insert (fin.remove s.delta.entries x) e.dot (presence_of e)) is) i;
    };
  }

  pub restored_is : (l : Left) (end : Dot) → end ≡ last s → seen ≡ set.remove s.store.seen end →
      entries ≡ fin.insert (fin.remove s.store.entries end) l.entry.dot (presence_of l.entry) →
      delta_seen ≡ dots_before l.in_delta l.entry.dot (set.remove s.delta.seen end) → delta_entries ≡ put l.unsent (fin.remove s.delta.entries end) →
      record { own = s.own; store = record { seen = seen; entries = entries }; delta = record { seen = delta_seen; entries = delta_entries } } ≡ with_left l s
  restored_is l end is a b c d = λ i. record s {
    store = record {
      seen = (a ∙ ap (set.remove s.store.seen) is) i;
      entries = (b ∙ ap (λ k. fin.insert (fin.remove s.store.entries k) l.entry.dot (presence_of l.entry)) is) i;
    };
    delta = record {
      seen = (c ∙ ap (λ k. dots_before l.in_delta l.entry.dot (set.remove s.delta.seen k)) is) i;
      entries = (d ∙ ap (λ k. put l.unsent (fin.remove s.delta.entries k)) is) i;
    };
  }

-- the store of another store in its place, where `s` is the whole as its fields say it
pub in_place : (s now : DeltaStore) → s ≡ now → (new other : Store) → new ≡ other → record s { store = new } ≡ record now { store = other }
in_place s now same new other is = (λ i. record s { store = is i }) ∙ ap (λ (t : DeltaStore). record t { store = other }) same

-- leaves together, from this clock on
pub left_each_is : (s : DeltaStore) (ds : List Dot) → HasClocks s.own s.store.seen → (clock : ℕ) → clock ≡ own_clock s →
    (seen : Dots) (entries : Entries) (delta_seen : Dots) (delta_entries : Entries) →
    seen ≡ with_next s.own clock (length ds) s.store.seen → entries ≡ without_each ds s.store.entries →
    delta_seen ≡ with_next s.own clock (length ds) (with_dots ds s.delta.seen) → delta_entries ≡ without_each ds s.delta.entries →
    record { own = s.own; store = record { seen = seen; entries = entries }; delta = record { seen = delta_seen; entries = delta_entries } } ≡ left_each ds s
left_each_is s ds clocks clock is seen entries delta_seen delta_entries a b c d =
    (λ i. record s {
      store = record { seen = (a ∙ ap (λ n. with_next s.own n (length ds) s.store.seen) is) i; entries = b i };
      delta = record { seen = (c ∙ ap (λ n. with_next s.own n (length ds) (with_dots ds s.delta.seen)) is) i; entries = d i };
    })
    ∙ sym (left_each_parts ds s clocks)

-- and all of them taken back
pub lefts_back_is : (s : DeltaStore) (ls : List Left) (clock : ℕ) → clock ≡ own_clock s - length ls →
    (seen : Dots) (entries : Entries) (delta_seen : Dots) (delta_entries : Entries) →
    seen ≡ without_next s.own clock (length ls) s.store.seen → entries ≡ with_each (pairs (entries_left ls)) s.store.entries →
    delta_seen ≡ dots_before_each ls (without_next s.own clock (length ls) s.delta.seen) → delta_entries ≡ with_each (pairs (unsent_left ls)) s.delta.entries →
    record { own = s.own; store = record { seen = seen; entries = entries }; delta = record { seen = delta_seen; entries = delta_entries } } ≡ with_lefts ls s
lefts_back_is s ls clock is seen entries delta_seen delta_entries a b c d = λ i. record s {
  store = record { seen = (a ∙ ap (λ n. without_next s.own n (length ls) s.store.seen) is) i; entries = b i };
  delta = record { seen = (c ∙ ap (λ n. dots_before_each ls (without_next s.own n (length ls) s.delta.seen)) is) i; entries = d i };
}

-- the last own dots, one for each that left, where `s` is the store as its fields say it
module _ (ls : List Left) (s now : DeltaStore) (same : s ≡ now) (h : IsDeltaStore s) (some : length ls ≤ own_clock now) (clock len : ℕ)
    (clock_is : clock ≡ own_clock now) (len_is : len ≡ length ls) where
  pub clock_back : clock - len ≡ own_clock s - length ls
  clock_back = let here = ap own_clock same in omega (arith, here, clock_is, len_is)

  lefts_end : clock - len + length ls ≡ own_clock s
  lefts_end = let here = ap own_clock same in omega (arith, some, here, clock_is, len_is)

  pub lefts_fit : clock - len + length ls ≤ 1000000000
  lefts_fit = let low = clock_within s h in omega (arith, lefts_end, low)

  pub lefts_last : IsLast (dot s.own (clock - len + length ls)) s.store.seen
  lefts_last = subst (λ c. IsLast (dot s.own c) s.store.seen) (sym lefts_end) (last_is_last s h)
