-- All entries of one process that leave: what they keep, what they are as edits of two stores, and their way back.
use Rattle.std.proofs.Common.{◌≡◌, ◌≢◌, ℕ, ◌+◌, ◌-◌, ◌<◌, ◌==◌, T, Bool, true, false, cond, List, [], ◌∷◌, map}
use Rattle.std.proofs.Common.{filter, length, Option, Some, None, is_some, refl, sym, ap, ◌∙◌, subst, arith, subst₂, true≢false}
use Rattle.std.proofs.Math.Facts.{and_yes}
use Rattle.std.specs.FinMap as fin
use Rattle.std.specs.FinMap.Entries.{below_all}
use Rattle.std.specs.FinSet as set
use Rattle.std.specs.List.{AllByRecursion}
use Rattle.std.specs.Ordering.{is_lt}
use Rattle.dots_core.specs.declared.dot.Dot.{Dot}
use Rattle.dots_core.specs.Dots.{dot, dot_cmp, IsValid, HasClocks}
use Rattle.dots_core.proofs.Order.{is_dot, is_dot_same, is_dot_above}
use Rattle.payload_core.specs.EntryLists.{pairs}
use Rattle.payload_core.specs.Presences.{Presence, Entries, dots_of}
use Rattle.payload_core.proofs.TrackedDots.{EachPasses, dots_of_pass}
use Rattle.store_core.specs.LeftEntries.{Left}
use Rattle.store_core.specs.EntryMoves.{AreNew, picked, with_each, without_each}
use Rattle.store_core.specs.LeavesTogether.{AreLive, Differ, dots_before_each, entries_left, left_delta, left_store, lefts_of}
use Rattle.store_core.specs.LeavesTogether.{restored_delta_each, restored_each, unsent_left, with_dots, without_next}
use Rattle.store_core.proofs.KeptStores as stores
use Rattle.store_core.proofs.LeftTogether.{AreAmong, dots_back, entries_picked, lefts_length, lefts_valid, unsent_picked}
use Rattle.store_core.proofs.PutBack.{all_picked_new, put_all_back}
use Rattle.store_core.proofs.SeenTogether.{AreOther, EndsAt, counts_after, next_back, other_dots}
use Rattle.replica_core.specs.Invariant.{IsReplica}
use Rattle.replica_core.specs.Leaves.{AreOwnSeen}
use Rattle.replica_core.specs.ProcessLeaves.{AllRestorable, IsLeaveAll}
use Rattle.replica_core.specs.Replicas.{Replica, dots_of_process, left_each, own_clock}
use Rattle.replica_core.proofs.Invariant.{last_in_delta, last_is_last}
use Rattle.replica_core.proofs.Left.{own_dots_seen}
use Rattle.replica_core.proofs.StoreParts.{left_each_stores, replica_of, stores_of}

-- leaves as edits of two stores
pub left_each_parts : (ds : List Dot) (r : Replica) → HasClocks r.own r.store.seen →
    left_each ds r ≡ record r { store = left_store r.own (own_clock r) ds r.store; delta = left_delta r.own (own_clock r) ds r.delta }
left_each_parts ds r clocks =
    sym (left_each_stores ds r.limits r.view (stores_of r)) ∙ ap (replica_of r.limits r.view) (stores.left_each_parts ds (stores_of r) clocks)

-- the dots of a name are live, and no two are alike

module _ (passes : Dot × Presence → Bool) where
  other_dot : (e f : Dot × Presence) → T (is_lt (dot_cmp e.0 f.0)) → f.0 ≢ e.0
  other_dot e f below same = true≢false (sym (is_dot_same e.0) ∙ ap (λ d. is_dot d e.0) (sym same) ∙ is_dot_above e.0 f.0 below)

  others_above : (e : Dot × Presence) (es : List (Dot × Presence)) → T (below_all dot_cmp e.0 es) →
      AreOther e.0 (map (λ (e : Dot × Presence). e.0) (filter passes es))
  others_above e [] below = tt
  others_above e (f ∷ fs) below =
      let parts = and_yes (is_lt (dot_cmp e.0 f.0)) (below_all dot_cmp e.0 fs) below in go (passes f) parts.0 (others_above e fs parts.1)
    where
      go : (b : Bool) → T (is_lt (dot_cmp e.0 f.0)) → AreOther e.0 (map (λ (e : Dot × Presence). e.0) (filter passes fs)) →
          AreOther e.0 (map (λ (e : Dot × Presence). e.0) (cond b (f ∷ filter passes fs) (filter passes fs)))
      go true first rest = (other_dot e f first, rest)
      go false first rest = rest

  sorted_differ : (es : List (Dot × Presence)) → T (fin.is_sorted dot_cmp es) →
      Differ (map (λ (e : Dot × Presence). e.0) (filter passes es))
  sorted_differ [] sorted = tt
  sorted_differ (e ∷ es) sorted =
      let parts = and_yes (below_all dot_cmp e.0 es) (fin.is_sorted dot_cmp es) sorted in go (passes e) (others_above e es parts.0)
      (sorted_differ es parts.1)
    where
      go : (b : Bool) → AreOther e.0 (map (λ (e : Dot × Presence). e.0) (filter passes es)) →
          Differ (map (λ (e : Dot × Presence). e.0) (filter passes es)) →
          Differ (map (λ (e : Dot × Presence). e.0) (cond b (e ∷ filter passes es) (filter passes es)))
      go true other rest = (other, rest)
      go false other rest = rest

pub dots_differ : (name : ℕ) (test : Presence → Bool) (m : Entries) → Differ (dots_of name test m)
dots_differ name test m = sorted_differ _ (fin.entries m) (fin.entries_sorted m)

passing_live : (name : ℕ) (test : Presence → Bool) (m : Entries) (ds : List Dot) → EachPasses name test m ds → AreLive ds m
passing_live name test m [] pass = tt
passing_live name test m (d ∷ ds) pass = (ap is_some pass.0.1.1, passing_live name test m ds pass.1)

pub dots_live : (name : ℕ) (test : Presence → Bool) (m : Entries) → AreLive (dots_of name test m) m
dots_live name test m = passing_live name test m (dots_of name test m) (dots_of_pass name test m)

-- the way back

module _ (a : Replica) (h : IsReplica a) where
  among : AreAmong a.delta.entries a.store.entries
  among d none = go (fin.get a.delta.entries d) refl
    where
      go : (o : Option Presence) → fin.get a.delta.entries d ≡ o → o ≡ None
      go None is = refl
      go (Some p) is = let both : Some p ≡ None = sym (h.delta_in d p is) ∙ none in absurd (cc)

  none_above : (ds : List Dot) (k : ℕ) → AreOwnSeen ds a → own_clock a < k → AreOther (dot a.own k) ds
  none_above [] k own above = tt
  none_above (d ∷ ds) k own above = (
    (λ same. true≢false (sym own.0.1 ∙ ap (set.contains a.store.seen) same ∙ last_is_last a h k above)),
    none_above ds k own.1 above,
  )

  each_valid : (ds : List Dot) → AreOwnSeen ds a → AllByRecursion IsValid ds
  each_valid [] own = tt
  each_valid (d ∷ ds) own = (h.valid d own.0.1, each_valid ds own.1)

  module _ (ds : List Dot) (own : AreOwnSeen ds a) (differ : Differ ds) (live : AreLive ds a.store.entries) where
    lefts : List Left
    lefts = lefts_of ds a.store.entries a.delta.entries a.delta.seen

    after : Replica
    after = record a { store = left_store a.own (own_clock a) ds a.store; delta = left_delta a.own (own_clock a) ds a.delta }

    delta_ends : EndsAt a.own (own_clock a) (with_dots ds a.delta.seen)
    delta_ends k above = other_dots ds a.delta.seen (dot a.own k) (none_above ds k own above) ∙ last_in_delta a h k above

    count : length lefts ≡ length ds
    unfolding lefts
    count = lefts_length ds a.store.entries a.delta.entries a.delta.seen differ live

    clock_after : own_clock after ≡ own_clock a + length ds
    unfolding after
    clock_after = (counts_after a.own (length ds) a.store.seen h.clocks).1

    clock_back : own_clock after - length lefts ≡ own_clock a
    clock_back = omega (arith, count, clock_after)

    entries_are : pairs (entries_left lefts) ≡ picked ds a.store.entries
    unfolding lefts
    entries_are = entries_picked ds a.store.entries a.delta.entries a.delta.seen

    unsent_are : pairs (unsent_left lefts) ≡ picked ds a.delta.entries
    unfolding lefts
    unsent_are = unsent_picked ds a.store.entries a.delta.entries a.delta.seen among

    store_back : restored_each a.own (own_clock a) lefts after.store ≡ a.store
    unfolding after
    store_back = λ i. record {
      seen =
          (ap (λ n. without_next a.own (own_clock a) n after.store.seen) count
          ∙ next_back a.own (own_clock a) (length ds) a.store.seen (last_is_last a h)) i;
      entries = (ap (λ ps. with_each ps (without_each ds a.store.entries)) entries_are ∙ put_all_back ds a.store.entries) i;
    }

    delta_back : restored_delta_each a.own (own_clock a) lefts after.delta ≡ a.delta
    unfolding after lefts
    delta_back = λ i. record {
      seen = (
          ap (λ n. dots_before_each lefts (without_next a.own (own_clock a) n after.delta.seen)) count
          ∙ ap (dots_before_each lefts) (next_back a.own (own_clock a) (length ds) (with_dots ds a.delta.seen) delta_ends)
          ∙ dots_back ds a.store.entries a.delta.entries a.delta.seen differ live
          ) i;
      entries = (ap (λ ps. with_each ps (without_each ds a.delta.entries)) unsent_are ∙ put_all_back ds a.delta.entries) i;
    }

    restorable_after : AllRestorable lefts after a
    unfolding after lefts
    restorable_after = record {
      earlier = h;
      back =
          ap (λ c. record a { store = restored_each a.own c lefts after.store; delta = restored_delta_each a.own c lefts after.delta })
          clock_back ∙ (λ i. record a { store = store_back i; delta = delta_back i });
      some = omega (arith, count, clock_after);
      valid = lefts_valid ds a.store.entries a.delta.entries a.delta.seen (each_valid ds own);
      new = subst (λ ps. AreNew ps (without_each ds a.store.entries)) (sym entries_are) (all_picked_new ds a.store.entries);
      new_in_delta = subst (λ ps. AreNew ps (without_each ds a.delta.entries)) (sym unsent_are) (all_picked_new ds a.delta.entries);
    }

    pub restorable_each : (ls : List Left) (b : Replica) → ls ≡ lefts_of ds a.store.entries a.delta.entries a.delta.seen →
        b ≡ left_each ds a → AllRestorable ls b a
    unfolding after lefts
    restorable_each ls b stood gives =
        subst₂ (λ ls b. AllRestorable ls b a) (sym stood) (sym (gives ∙ left_each_parts ds a h.clocks)) restorable_after

pub restorable_all : (ls : List Left) (b a : Replica) → IsReplica a → IsLeaveAll ls a b → AllRestorable ls b a
restorable_all ls b a h c =
    let test : Presence → Bool = λ p. p.pid == c.pid in
    restorable_each a h (dots_of_process a c.pid) (own_dots_seen a test h) (dots_differ a.own test a.store.entries)
    (dots_live a.own test a.store.entries) ls b c.stood c.gives
