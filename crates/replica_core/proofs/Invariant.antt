-- Each change of a replica keeps what each replica keeps.
use Rattle.std.proofs.Common.{◌≡◌, ◌≢◌, ◌⊎◌, inl, inr, ℕ, ◌+◌, ◌-◌, ◌<◌, ◌≤◌, ◌==◌, ◌&&◌, ◌||◌, Bool, true, false, cond, Option, Some}
use Rattle.std.proofs.Common.{None, is_some, refl, sym, ap, ◌∙◌, subst, arith, true≢false}
use Rattle.std.proofs.Math.Bool.{or-false}
use Rattle.std.proofs.lemmas.Bool.{and_parts, eq-eqb, eqb-false, ltb-false, ne_eqb, false_from_ne_true, or_cases}
use Rattle.std.specs.FinMap as fin
use Rattle.std.specs.FinSet as set
use Rattle.std.specs.Ordering.{nat_cmp}
use Rattle.dots_core.specs.declared.dot.Dot.{Dot}
use Rattle.dots_core.specs.Dots.{Dots, dot, dot_cmp, IsValid, AreValid, count_of, of_names}
use Rattle.dots_core.specs.Contexts.{IsLast, IsNext}
use Rattle.dots_core.proofs.Order.{dot_total}
use Rattle.dots_core.proofs.Sets.{same_dots, contains-retain, contains_inserted, contains_insert_more, inserted_cases}
use Rattle.dots_core.proofs.OwnClock.{not_fresh, count_more, clocks_more, clocks_same, own_same}
use Rattle.payload_core.specs.Presences.{Presence, Entries, entries_of_names}
use Rattle.payload_core.specs.Messages.{Message, AreSeen}
use Rattle.block_core.proofs.EntryMaps.{get_inserted, get_insert_other, get_remove_other}
use Rattle.payload_core.proofs.SeenEntries.{seen_none, seen-insert, seen-remove, seen-names}
use Rattle.store_core.specs.Stores.{Store, nothing, store_of}
use Rattle.store_core.proofs.StoreMerges.{contains-merged, entry_after, get-merged}
use Rattle.replica_core.specs.declared.node_limits.NodeLimits.{NodeLimits}
use Rattle.replica_core.specs.declared.status.Status.{Status}
use Rattle.replica_core.specs.declared.status.Status.TheVariants.{Up}
use Rattle.replica_core.specs.Limits.{AreNodeLimits}
use Rattle.replica_core.specs.Replicas.{Replica, opening, own_clock, fresh, last, is_known, joined, dropped, ticked, with_status}
use Rattle.replica_core.specs.Replicas.{without_delta, with_delta, CanBeDelta}
use Rattle.replica_core.specs.Deliveries.{is_other_known, merged}
use Rattle.replica_core.specs.Refusals.{is_tracked, are_too_many, is_clock_full}
use Rattle.replica_core.specs.Invariant.{IsReplica}
use Rattle.replica_core.proofs.Views.{get_insert_view}
use Rattle.replica_core.proofs.Once.{inserted_entry, removed_entry, once_kept, once_joined, own_is_not_other, own_entry-merged, once_merged}

-- the opening

no_dot : (d : Dot) → set.contains {R = dot_cmp} set.empty d ≡ true → ⊥
no_dot d e = true≢false (sym e ∙ set.contains-empty dot_cmp d)

no_entry : (d : Dot) (p : Presence) → fin.get {R = dot_cmp} fin.empty d ≡ Some p → ⊥
no_entry d p e = let none = fin.get-empty {X = Presence} dot_cmp d in cc

no_count : (own : ℕ) → count_of own set.empty ≡ 0
no_count own =
    ap set.len (same_dots (of_names (λ n. n == own) set.empty) set.empty
    (λ q. contains-retain set.empty (λ d. d.name == own) q ∙ ap (λ b. b && (q.name == own)) (set.contains-empty dot_cmp q)
    ∙ sym (set.contains-empty dot_cmp q))) ∙ set.len-empty dot_cmp

pub kept_opening : (own : ℕ) (l : NodeLimits) → own < 32 → AreNodeLimits l → IsReplica (opening own l)
kept_opening own l name limits = record {
  name = name;
  up = get_insert_view fin.empty own own Up ∙ ap (λ b. cond b (Some Up) (fin.get {R = nat_cmp} fin.empty own)) (eq-eqb own own refl);
  limits = limits;
  valid = λ d e. absurd (no_dot d e);
  known = λ d e. absurd (no_dot d e);
  clocks = λ k. ((λ e. absurd (no_dot (dot own k) e)), (λ h. absurd (let none = no_count own in omega arith)));
  clock = let none = no_count own in omega arith;
  live = seen_none set.empty;
  few = let none = fin.len-empty dot_cmp Presence in omega arith;
  once = λ d e p q md me at bt ep et ek. absurd (no_entry d p at);
  delta_live = seen_none set.empty;
  delta_own = λ d e. absurd (no_dot d e);
  delta_in = λ d p e. absurd (no_entry d p e);
}

-- a join

module _ (r : Replica) (h : IsReplica r) where
  known_own : (d : Dot) → d.name ≡ r.own → is_known r d.name ≡ true
  known_own d mine = ap (is_known r) mine ∙ ap is_some h.up

  pub clock_below : is_clock_full r 1 ≡ false → own_clock r + 1 ≤ r.limits.clock
  clock_below free = ltb-false r.limits.clock (own_clock r + 1) free

  -- the fresh dot can be put in
  pub fresh_valid : is_clock_full r 1 ≡ false → IsValid (fresh r)
  fresh_valid free = let low = clock_below free in let bound = h.limits.clock_few in record { name = h.name; first = omega arith; last = omega arith }

  -- its clock is the next one
  pub fresh_next : IsNext (fresh r) r.store.seen
  fresh_next = (
    own_clock r,
    refl,
    record {
      all = λ k le. ((λ e. let c = (h.clocks k).0 e in c.0), (λ pos. (h.clocks k).1 (pos, le)));
      greatest = not_fresh r.own r.store.seen h.clocks;
    },
  )

  -- it was not seen, and is none of the delta
  pub fresh_unseen : set.contains r.store.seen (fresh r) ≡ false
  fresh_unseen = not_fresh r.own r.store.seen h.clocks

  pub fresh_unsent : set.contains r.delta.seen (fresh r) ≡ false
  fresh_unsent = false_from_ne_true _ (λ e. true≢false (sym (h.delta_own (fresh r) e).1 ∙ fresh_unseen))

  -- no own dot above the last was seen

  above_last : (k : ℕ) → own_clock r < k → set.contains r.store.seen (dot r.own k) ≡ false
  above_last k above = false_from_ne_true _ (λ e. let c = (h.clocks k).0 e in absurd (omega (arith, c.1, above)))

  pub last_is_last : IsLast (last r) r.store.seen
  last_is_last k above = above_last k above

  pub last_in_delta : IsLast (last r) r.delta.seen
  last_in_delta k above = false_from_ne_true _ (λ e. true≢false (sym (h.delta_own (dot r.own k) e).1 ∙ above_last k above))

  pub last_valid : 0 < own_clock r → IsValid (last r)
  last_valid some = let low = h.clock in let bound = h.limits.clock_few in record { name = h.name; first = omega arith; last = omega arith }

  -- above all own dots, in the delta too
  pub fresh_is_last : IsLast (fresh r) r.delta.seen
  fresh_is_last k above = false_from_ne_true _ (λ e. true≢false (sym (h.delta_own (dot r.own k) e).1 ∙ above_last k (omega (arith, above))))

  -- it has no entry
  pub fresh_absent : fin.get r.store.entries (fresh r) ≡ None
  fresh_absent = go (fin.get r.store.entries (fresh r)) refl
    where
      go : (o : Option Presence) → fin.get r.store.entries (fresh r) ≡ o → o ≡ None
      go None is = refl
      go (Some p) is = absurd (true≢false (sym (h.live (fresh r) (ap is_some is)) ∙ not_fresh r.own r.store.seen h.clocks))

  -- nor has it one in the delta
  pub fresh_absent_in_delta : fin.get r.delta.entries (fresh r) ≡ None
  fresh_absent_in_delta = go (fin.get r.delta.entries (fresh r)) refl
    where
      go : (o : Option Presence) → fin.get r.delta.entries (fresh r) ≡ o → o ≡ None
      go None is = refl
      go (Some p) is = let entry = h.delta_in (fresh r) p is in let none = fresh_absent in absurd (cc)

  joined_valid : is_clock_full r 1 ≡ false → (d : Dot) → (d ≡ fresh r) ⊎ (set.contains r.store.seen d ≡ true) → IsValid d
  joined_valid free d (inl e) = subst IsValid (sym e) (fresh_valid free)
  joined_valid free d (inr e) = h.valid d e

  joined_known : (d : Dot) → (d ≡ fresh r) ⊎ (set.contains r.store.seen d ≡ true) → is_known r d.name ≡ true
  joined_known d (inl e) = known_own d (ap (λ (d : Dot). d.name) e)
  joined_known d (inr e) = h.known d e

  joined_delta_own : (d : Dot) → (d ≡ fresh r) ⊎ (set.contains r.delta.seen d ≡ true) →
      (d.name ≡ r.own) × (set.contains (set.insert r.store.seen (fresh r)) d ≡ true)
  joined_delta_own d (inl e) = (ap (λ (d : Dot). d.name) e, ap (set.contains (set.insert r.store.seen (fresh r))) e ∙ contains_inserted r.store.seen (fresh r))
  joined_delta_own d (inr e) = let old = h.delta_own d e in (old.0, contains_insert_more r.store.seen (fresh r) d old.1)

  joined_delta_in : (p : Presence) (d : Dot) (q : Presence) → ((d ≡ fresh r) × (q ≡ p)) ⊎
      ((d ≢ fresh r) × (fin.get r.delta.entries d ≡ Some q)) → fin.get (fin.insert r.store.entries (fresh r) p) d ≡ Some q
  joined_delta_in p d q (inl e) = ap (fin.get (fin.insert r.store.entries (fresh r) p)) e.0 ∙ get_inserted r.store.entries (fresh r) p ∙ ap Some (sym e.1)
  joined_delta_in p d q (inr e) = get_insert_other r.store.entries (fresh r) d p e.0 ∙ h.delta_in d q e.1

  pub kept_joined : (p : Presence) → is_tracked r p.pid p.topic p.key ≡ false → are_too_many r (fin.len r.store.entries + 1) ≡ false →
      is_clock_full r 1 ≡ false → IsReplica (joined p r)
  kept_joined p new few free = record {
    name = h.name;
    up = h.up;
    limits = h.limits;
    valid = λ d e. joined_valid free d (inserted_cases r.store.seen (fresh r) d e);
    known = λ d e. joined_known d (inserted_cases r.store.seen (fresh r) d e);
    clocks = clocks_more r.own r.store.seen h.clocks;
    clock = let more = count_more r.own r.store.seen h.clocks in let low = clock_below free in omega arith;
    live = seen-insert r.store.seen r.store.entries (fresh r) p h.live;
    few =
        let len : fin.len (fin.insert r.store.entries (fresh r) p) ≡ fin.len r.store.entries + 1 =
        fin.len-insert dot_total r.store.entries (fresh r) p ∙ ap
        (λ (o : Option Presence). cond (is_some o) (fin.len r.store.entries) (fin.len r.store.entries + 1)) fresh_absent in
        let fits = ltb-false r.limits.entries (fin.len r.store.entries + 1) few in
        omega arith;
    once = once_joined r p h.once new;
    delta_live = seen-insert r.delta.seen r.delta.entries (fresh r) p h.delta_live;
    delta_own = λ d e. joined_delta_own d (inserted_cases r.delta.seen (fresh r) d e);
    delta_in = λ d q e. joined_delta_in p d q (inserted_entry r.delta.entries (fresh r) d p q e);
  }

  -- what a leave does: its entry goes, and a fresh dot was seen

  dropped_delta_own : (x d : Dot) → x.name ≡ r.own → set.contains r.store.seen x ≡ true →
      (d ≡ x) ⊎ (set.contains r.delta.seen d ≡ true) → (d.name ≡ r.own) × (set.contains r.store.seen d ≡ true)
  dropped_delta_own x d mine there (inl e) = (ap (λ (d : Dot). d.name) e ∙ mine, ap (set.contains r.store.seen) e ∙ there)
  dropped_delta_own x d mine there (inr e) = h.delta_own d e

  fewer : (t : Bool) (n : ℕ) → cond t (n - 1) n ≤ n
  fewer true n = omega arith
  fewer false n = omega arith

  pub kept_dropped : (x : Dot) → x.name ≡ r.own → set.contains r.store.seen x ≡ true → IsReplica (dropped x r)
  kept_dropped x mine there = record {
    name = h.name;
    up = h.up;
    limits = h.limits;
    valid = h.valid;
    known = h.known;
    clocks = h.clocks;
    clock = h.clock;
    live = seen-remove r.store.seen r.store.entries x h.live;
    few =
        let len = fin.len-remove dot_total r.store.entries x in
        let less = fewer (is_some (fin.get r.store.entries x)) (fin.len r.store.entries) in
        let few = h.few in
        omega (arith, len, less, few);
    once = once_kept r (dropped x r) refl (λ d p own e. (removed_entry r.store.entries x d p e).1) h.once;
    delta_live = λ d e. contains_insert_more r.delta.seen x d (seen-remove r.delta.seen r.delta.entries x h.delta_live d e);
    delta_own = λ d e. dropped_delta_own x d mine there (inserted_cases r.delta.seen x d e);
    delta_in = λ d p e. let old = removed_entry r.delta.entries x d p e in get_remove_other r.store.entries x d old.0 ∙ h.delta_in d p old.1;
  }

  pub kept_ticked : is_clock_full r 1 ≡ false → IsReplica (ticked r)
  kept_ticked free = record {
    name = h.name;
    up = h.up;
    limits = h.limits;
    valid = λ d e. joined_valid free d (inserted_cases r.store.seen (fresh r) d e);
    known = λ d e. joined_known d (inserted_cases r.store.seen (fresh r) d e);
    clocks = clocks_more r.own r.store.seen h.clocks;
    clock = let more = count_more r.own r.store.seen h.clocks in let low = clock_below free in omega arith;
    live = λ d e. contains_insert_more r.store.seen (fresh r) d (h.live d e);
    few = h.few;
    once = h.once;
    delta_live = λ d e. contains_insert_more r.delta.seen (fresh r) d (h.delta_live d e);
    delta_own = λ d e. joined_delta_own d (inserted_cases r.delta.seen (fresh r) d e);
    delta_in = h.delta_in;
  }

-- a delivery

live_after : (k s a : Bool) (e x : Option Presence) → (is_some e ≡ true → s ≡ true) → (is_some x ≡ true → a ≡ true) →
    is_some (entry_after k s e a x) ≡ true → (s || (k && a)) ≡ true
live_after k true a e x le lx h = refl
live_after true false true e x le lx h = refl
live_after true false false e None le lx h = le h
live_after true false false e (Some p) le lx h = lx refl
live_after false false a e x le lx h = le h

module _ (m : Message) (r : Replica) (h : IsReplica r) (valid : AreValid m.seen) (live : AreSeen m.seen m.entries) where
  seen_more : (d : Dot) → set.contains r.store.seen d ≡ true → set.contains (merged m r).store.seen d ≡ true
  seen_more d e = contains-merged (is_other_known r) (store_of m) r.store d ∙ ap (λ b. b || (is_other_known r d.name && set.contains m.seen d)) e

  merged_own : (d : Dot) → d.name ≡ r.own → set.contains r.store.seen d ≡ set.contains (merged m r).store.seen d
  merged_own d e = sym (contains-merged (is_other_known r) (store_of m) r.store d ∙ ap (λ b. set.contains r.store.seen d || (b && set.contains m.seen d))
      (own_is_not_other r d e) ∙ or-false (set.contains r.store.seen d))

  merged_valid : (d : Dot) → (set.contains r.store.seen d ≡ true) ⊎ ((is_other_known r d.name && set.contains m.seen d) ≡ true) → IsValid d
  merged_valid d (inl e) = h.valid d e
  merged_valid d (inr e) = valid d (and_parts _ _ e).1

  merged_known : (d : Dot) → (set.contains r.store.seen d ≡ true) ⊎ ((is_other_known r d.name && set.contains m.seen d) ≡ true) → is_known r d.name ≡ true
  merged_known d (inl e) = h.known d e
  merged_known d (inr e) = (and_parts _ _ (and_parts _ _ e).0).0

  pub kept_merged : fin.len (merged m r).store.entries ≤ r.limits.entries → IsReplica (merged m r)
  kept_merged few = record {
    name = h.name;
    up = h.up;
    limits = h.limits;
    valid = λ d e. merged_valid d (or_cases _ _ (sym (contains-merged (is_other_known r) (store_of m) r.store d) ∙ e));
    known = λ d e. merged_known d (or_cases _ _ (sym (contains-merged (is_other_known r) (store_of m) r.store d) ∙ e));
    clocks = clocks_same r.own r.store.seen (merged m r).store.seen merged_own h.clocks;
    clock = let same : own_clock (merged m r) ≡ own_clock r = sym
        (ap set.len (own_same r.own r.store.seen (merged m r).store.seen merged_own)) in let low = h.clock in omega arith;
    live = λ d e.
        contains-merged (is_other_known r) (store_of m) r.store d
        ∙ live_after (is_other_known r d.name) (set.contains r.store.seen d) (set.contains m.seen d) (fin.get r.store.entries d)
        (fin.get m.entries d) (h.live d) (live d) (ap is_some (sym (get-merged (is_other_known r) (store_of m) r.store d)) ∙ e);
    few = few;
    once = once_merged m r h.once;
    delta_live = h.delta_live;
    delta_own = λ d e. let old = h.delta_own d e in (old.0, seen_more d old.1);
    delta_in = λ d p e. own_entry-merged m r d (h.delta_own d (h.delta_live d (ap is_some e))).0 ∙ h.delta_in d p e;
  }

-- a status

turn : (a b : ℕ) → (a == b) ≡ false → (b == a) ≡ false
turn a b h = ne_eqb b a (λ e. eqb-false a b h (sym e))

some_either : (b : Bool) (s : Status) (o : Option Status) → is_some o ≡ true → is_some (cond b (Some s) o) ≡ true
some_either true s o h = refl
some_either false s o h = h

pub kept_status : (r : Replica) (name : ℕ) (s : Status) → IsReplica r → (name == r.own) ≡ false → IsReplica (with_status name s r)
kept_status r name s h other = record {
  name = h.name;
  up = get_insert_view r.view name r.own s ∙ ap (λ b. cond b (Some s) (fin.get r.view r.own)) (turn name r.own other) ∙ h.up;
  limits = h.limits;
  valid = h.valid;
  known = λ d e. ap is_some (get_insert_view r.view name d.name s) ∙ some_either (d.name == name) s (fin.get r.view d.name) (h.known d e);
  clocks = h.clocks;
  clock = h.clock;
  live = h.live;
  few = h.few;
  once = h.once;
  delta_live = h.delta_live;
  delta_own = h.delta_own;
  delta_in = h.delta_in;
}

-- the delta

pub kept_with_delta : (m : Message) (r : Replica) → IsReplica r → AreSeen m.seen m.entries → CanBeDelta m r → IsReplica (with_delta m r)
kept_with_delta m r h live can = record {
  name = h.name;
  up = h.up;
  limits = h.limits;
  valid = h.valid;
  known = h.known;
  clocks = h.clocks;
  clock = h.clock;
  live = h.live;
  few = h.few;
  once = h.once;
  delta_live = live;
  delta_own = can.own;
  delta_in = can.live;
}

pub kept_without_delta : (r : Replica) → IsReplica r → IsReplica (without_delta r)
kept_without_delta r h = record {
  name = h.name;
  up = h.up;
  limits = h.limits;
  valid = h.valid;
  known = h.known;
  clocks = h.clocks;
  clock = h.clock;
  live = h.live;
  few = h.few;
  once = h.once;
  delta_live = seen_none set.empty;
  delta_own = λ d e. absurd (no_dot d e);
  delta_in = λ d p e. absurd (no_entry d p e);
}

-- a message of some names has its entries' dots
pub parts_seen : (named : ℕ → Bool) (r : Replica) (seen : Dots) (es : Entries) → IsReplica r → seen ≡ of_names named r.store.seen →
    es ≡ entries_of_names named r.store.entries → AreSeen seen es
parts_seen named r seen es h e f = rw (e, f) (seen-names named r.store.seen r.store.entries h.live)

pub kept_sent : (r : Replica) (delta : Store) → IsReplica r → delta ≡ nothing → IsReplica (record r { delta = delta })
kept_sent r delta h e = rw e (kept_without_delta r h)
