-- What each change of a replica keeps, whatever its limits, and where the entries after it come from.
use Rattle.std.proofs.Common.{◌≡◌, ◌≢◌, ◌⊎◌, inl, inr, ℕ, ◌==◌, ◌&&◌, ◌||◌, not, Bool, true, false, cond, List, [], ◌∷◌, Option, Some, None, is_some}
use Rattle.std.proofs.Common.{refl, sym, ap, ◌∙◌, true≢false, arith}
use Rattle.std.proofs.Math.Bool.{or-false, or-true, and-true}
use Rattle.std.proofs.lemmas.Bool.{and_from, eqb-false, ne_eqb}
use Rattle.std.specs.List.{AllByRecursion}
use Rattle.std.specs.FinMap as fin
use Rattle.std.specs.FinSet as set
use Rattle.dots_core.specs.declared.dot.Dot.{Dot}
use Rattle.dots_core.specs.Dots.{dot, dot_cmp, count_of, of_names, HasClocks}
use Rattle.dots_core.proofs.Sets.{same_dots, contains-retain, contains_inserted, contains_insert_more, inserted_cases}
use Rattle.dots_core.proofs.OwnClock.{clocks_more, clocks_same}
use Rattle.payload_core.specs.Presences.{Presence, Entries}
use Rattle.payload_core.specs.Messages.{Message, AreSeen}
use Rattle.block_core.proofs.EntryMaps.{get-names, get_inserted, get_insert_other, get_remove_other}
use Rattle.payload_core.proofs.SeenEntries.{seen_none, seen-insert, seen-remove, seen-names}
use Rattle.store_core.proofs.StoreMerges.{entry_after, get-merged, contains-merged}
use Rattle.store_core.specs.Stores.{is_other, store_of}
use Rattle.payload_core.proofs.TrackedDots.{EachPasses, dots_of_pass}
use Rattle.replica_core.specs.declared.node_limits.NodeLimits.{NodeLimits}
use Rattle.replica_core.specs.declared.status.Status.{Status}
use Rattle.replica_core.specs.Replicas.{Replica, opening, fresh, own_dots, joined, dropped, ticked, left, left_each, dropped_each, with_status}
use Rattle.replica_core.specs.Replicas.{forgotten, without_delta}
use Rattle.replica_core.specs.Deliveries.{is_other_known, merged}
use Rattle.replica_core.proofs.Once.{inserted_entry, removed_entry, own_is_not_other, own_entry-merged}

-- the own dots have the clocks from 1 on, entries' dots were seen, and the delta has own dots and live entries
pub record IsSound (r : Replica) : Type 0 where
  pub clocks : HasClocks r.own r.store.seen
  pub live : AreSeen r.store.seen r.store.entries
  pub delta_live : AreSeen r.delta.seen r.delta.entries
  pub delta_own : (d : Dot) → set.contains r.delta.seen d ≡ true → d.name ≡ r.own
  pub delta_in : (d : Dot) (p : Presence) → fin.get r.delta.entries d ≡ Some p → fin.get r.store.entries d ≡ Some p

abbrev pub InMessage : Option Message → Dot → Presence → Type 0
InMessage None d p = ⊥
InMessage (Some m) d p = fin.get m.entries d ≡ Some p

-- an entry stood there before, came in the message, or is the new one at the fresh dot
abbrev pub ComesFrom : Replica → Option Message → Option Presence → Dot → Presence → Type 0
ComesFrom r m new d p = (fin.get r.store.entries d ≡ Some p) ⊎ (InMessage m d p ⊎ ((d ≡ fresh r) × (new ≡ Some p)))

-- a change of a replica, by a message or none, with a new entry or none
pub record Change (r : Replica) (m : Option Message) (new : Option Presence) (s : Replica) : Type 0 where
  pub own : s.own ≡ r.own
  pub sound : IsSound s
  pub keeps : (d : Dot) → d.name ≡ r.own → set.contains r.store.seen d ≡ true → set.contains s.store.seen d ≡ true
  pub comes : (d : Dot) (p : Presence) → fin.get s.store.entries d ≡ Some p → ComesFrom r m new d p
  pub made : (p : Presence) → new ≡ Some p → set.contains s.store.seen (fresh r) ≡ true

-- the opening

no_dot : (d : Dot) → set.contains {R = dot_cmp} set.empty d ≡ true → ⊥
no_dot d e = true≢false (sym e ∙ set.contains-empty dot_cmp d)

pub no_entry : (d : Dot) (p : Presence) → fin.get {R = dot_cmp} fin.empty d ≡ Some p → ⊥
no_entry d p e = let none = fin.get-empty {X = Presence} dot_cmp d in cc

no_count : (own : ℕ) → count_of own set.empty ≡ 0
no_count own =
    ap set.len (same_dots (of_names (λ n. n == own) set.empty) set.empty
    (λ q. contains-retain set.empty (λ d. d.name == own) q ∙ ap (λ b. b && (q.name == own)) (set.contains-empty dot_cmp q)
    ∙ sym (set.contains-empty dot_cmp q))) ∙ set.len-empty dot_cmp

pub sound_opening : (own : ℕ) (l : NodeLimits) → IsSound (opening own l)
sound_opening own l = record {
  clocks = λ k. ((λ e. absurd (no_dot (dot own k) e)), (λ h. absurd (let none = no_count own in omega arith)));
  live = seen_none set.empty;
  delta_live = seen_none set.empty;
  delta_own = λ d e. absurd (no_dot d e);
  delta_in = λ d p e. absurd (no_entry d p e);
}

-- a join

pub change_joined : (r : Replica) (p : Presence) → IsSound r → Change r None (Some p) (joined p r)
change_joined r p h = record {
  own = refl;
  sound = record {
    clocks = clocks_more r.own r.store.seen h.clocks;
    live = seen-insert r.store.seen r.store.entries (fresh r) p h.live;
    delta_live = seen-insert r.delta.seen r.delta.entries (fresh r) p h.delta_live;
    delta_own = λ d e. delta_own d (inserted_cases r.delta.seen (fresh r) d e);
    delta_in = λ d q e. delta_in d q (inserted_entry r.delta.entries (fresh r) d p q e);
  };
  keeps = λ d _ e. contains_insert_more r.store.seen (fresh r) d e;
  comes = λ d q e. comes d q (inserted_entry r.store.entries (fresh r) d p q e);
  made = λ _ _. contains_inserted r.store.seen (fresh r);
}
  where
    delta_own : (d : Dot) → (d ≡ fresh r) ⊎ (set.contains r.delta.seen d ≡ true) → d.name ≡ r.own
    delta_own d (inl e) = ap (λ (d : Dot). d.name) e
    delta_own d (inr e) = h.delta_own d e

    delta_in : (d : Dot) (q : Presence) → ((d ≡ fresh r) × (q ≡ p)) ⊎ ((d ≢ fresh r) × (fin.get r.delta.entries d ≡ Some q)) →
        fin.get (fin.insert r.store.entries (fresh r) p) d ≡ Some q
    delta_in d q (inl e) =
        ap (fin.get (fin.insert r.store.entries (fresh r) p)) e.0 ∙ get_inserted r.store.entries (fresh r) p ∙ ap Some (sym e.1)
    delta_in d q (inr e) = get_insert_other r.store.entries (fresh r) d p e.0 ∙ h.delta_in d q e.1

    comes : (d : Dot) (q : Presence) → ((d ≡ fresh r) × (q ≡ p)) ⊎ ((d ≢ fresh r) × (fin.get r.store.entries d ≡ Some q)) →
        ComesFrom r None (Some p) d q
    comes d q (inl e) = inr (inr (e.0, ap Some (sym e.1)))
    comes d q (inr e) = inl e.1

-- leaves

pub change_nothing : (r : Replica) → IsSound r → Change r None None r
change_nothing r h = record { own = refl; sound = h; keeps = λ d _ e. e; comes = λ d p e. inl e; made = λ _ none. absurd (cc) }

change_dropped : (r : Replica) (d : Dot) → IsSound r → d.name ≡ r.own → Change r None None (dropped d r)
change_dropped r x h mine = record {
  own = refl;
  sound = record {
    clocks = h.clocks;
    live = seen-remove r.store.seen r.store.entries x h.live;
    delta_live = λ d e. contains_insert_more r.delta.seen x d (seen-remove r.delta.seen r.delta.entries x h.delta_live d e);
    delta_own = λ d e. delta_own d (inserted_cases r.delta.seen x d e);
    delta_in = λ d p e. let old = removed_entry r.delta.entries x d p e in get_remove_other r.store.entries x d old.0 ∙ h.delta_in d p old.1;
  };
  keeps = λ d _ e. e;
  comes = λ d p e. inl (removed_entry r.store.entries x d p e).1;
  made = λ _ none. absurd (cc);
}
  where
    delta_own : (d : Dot) → (d ≡ x) ⊎ (set.contains r.delta.seen d ≡ true) → d.name ≡ r.own
    delta_own d (inl e) = ap (λ (d : Dot). d.name) e ∙ mine
    delta_own d (inr e) = h.delta_own d e

change_ticked : (r : Replica) → IsSound r → Change r None None (ticked r)
change_ticked r h = record {
  own = refl;
  sound = record {
    clocks = clocks_more r.own r.store.seen h.clocks;
    live = λ d e. contains_insert_more r.store.seen (fresh r) d (h.live d e);
    delta_live = λ d e. contains_insert_more r.delta.seen (fresh r) d (h.delta_live d e);
    delta_own = λ d e. delta_own d (inserted_cases r.delta.seen (fresh r) d e);
    delta_in = h.delta_in;
  };
  keeps = λ d _ e. contains_insert_more r.store.seen (fresh r) d e;
  comes = λ d p e. inl e;
  made = λ _ none. absurd (cc);
}
  where
    delta_own : (d : Dot) → (d ≡ fresh r) ⊎ (set.contains r.delta.seen d ≡ true) → d.name ≡ r.own
    delta_own d (inl e) = ap (λ (d : Dot). d.name) e
    delta_own d (inr e) = h.delta_own d e

-- after a change that brings none, an entry is one before
none_new : (r s : Replica) (d : Dot) (p : Presence) → Change r None None s → fin.get s.store.entries d ≡ Some p → fin.get r.store.entries d ≡ Some p
none_new r s d p a h = go (a.comes d p h)
  where
    go : ComesFrom r None None d p → fin.get r.store.entries d ≡ Some p
    go (inl e) = e
    go (inr (inl none)) = absurd none
    go (inr (inr none)) = absurd (let e = none.1 in cc)

-- a change that brings no entry, and then another
both_none : (r s t : Replica) → Change r None None s → Change s None None t → Change r None None t
both_none r s t a b = record {
  own = b.own ∙ a.own;
  sound = b.sound;
  keeps = λ d e h. b.keeps d (e ∙ sym a.own) (a.keeps d e h);
  comes = λ d p h. inl (none_new r s d p a (none_new s t d p b h));
  made = λ p none. absurd (cc);
}

abbrev AreOwn : ℕ → List Dot → Type 0
AreOwn own ds = AllByRecursion (λ (d : Dot). d.name ≡ own) ds

passing_own : (own : ℕ) (test : Presence → Bool) (es : Entries) (ds : List Dot) → EachPasses own test es ds → AreOwn own ds
passing_own own test es [] pass = tt
passing_own own test es (d ∷ ds) pass = (pass.0.0, passing_own own test es ds pass.1)

are_own : (r : Replica) (test : Presence → Bool) → AreOwn r.own (own_dots r test)
are_own r test = passing_own r.own test r.store.entries (own_dots r test) (dots_of_pass r.own test r.store.entries)

left_each_own : (r : Replica) (ds : List Dot) → IsSound r → AreOwn r.own ds → Change r None None (left_each ds r)
left_each_own r [] h own = change_nothing r h
left_each_own r (d ∷ ds) h own =
    let drop = change_dropped r d h own.0 in
    let first = both_none r (dropped d r) (left d r) drop (change_ticked (dropped d r) drop.sound) in
    both_none r (left d r) (left_each ds (left d r)) first (left_each_own (left d r) ds first.sound own.1)

pub change_left_each : (r : Replica) (test : Presence → Bool) → IsSound r → Change r None None (left_each (own_dots r test) r)
change_left_each r test h = left_each_own r (own_dots r test) h (are_own r test)

-- an update

drops_own : (r : Replica) (ds : List Dot) → IsSound r → AreOwn r.own ds →
    Change r None None (dropped_each ds r) × (fresh (dropped_each ds r) ≡ fresh r)
drops_own r [] h own = (change_nothing r h, refl)
drops_own r (d ∷ ds) h own =
    let drop = change_dropped r d h own.0 in
    let rest = drops_own (dropped d r) ds drop.sound own.1 in
    (both_none r (dropped d r) (dropped_each ds (dropped d r)) drop rest.0, rest.1)

pub change_updated : (r : Replica) (test : Presence → Bool) (p : Presence) → IsSound r → Change r None (Some p) (joined p (dropped_each (own_dots r test) r))
change_updated r test p h = record {
  own = b.own ∙ a.own;
  sound = b.sound;
  keeps = λ d e seen. b.keeps d (e ∙ sym a.own) (a.keeps d e seen);
  comes = λ d q e. comes d q (b.comes d q e);
  made = λ q new. ap (set.contains (joined p s).store.seen) (sym drops.1) ∙ b.made q new;
}
  where
    s : Replica
    s = dropped_each (own_dots r test) r

    drops : Change r None None s × (fresh s ≡ fresh r)
    drops = drops_own r (own_dots r test) h (are_own r test)

    a : Change r None None s
    a = drops.0

    b : Change s None (Some p) (joined p s)
    b = change_joined s p a.sound

    comes : (d : Dot) (q : Presence) → ComesFrom s None (Some p) d q → ComesFrom r None (Some p) d q
    comes d q (inl e) = inl (none_new r s d q a e)
    comes d q (inr (inl none)) = absurd none
    comes d q (inr (inr e)) = inr (inr (e.0 ∙ drops.1, e.1))

-- a delivery

entry_cases : (k s a : Bool) (e x : Option Presence) (p : Presence) → entry_after k s e a x ≡ Some p →
    (e ≡ Some p) ⊎ ((k ≡ true) × (x ≡ Some p))
entry_cases false s a e x p h = inl h
entry_cases true true true None None p h = absurd (cc)
entry_cases true true true None (Some q) p h = absurd (cc)
entry_cases true true true (Some q) None p h = absurd (cc)
entry_cases true true true (Some q) (Some w) p h = inl h
entry_cases true true false e x p h = inl h
entry_cases true false a e (Some q) p h = inr (refl, h)
entry_cases true false true e None p h = absurd (cc)
entry_cases true false false e None p h = inl h

module _ (r : Replica) (m : Message) where
  merged_cases : (d : Dot) (p : Presence) → fin.get (merged m r).store.entries d ≡ Some p →
      (fin.get r.store.entries d ≡ Some p) ⊎ ((is_other_known r d.name ≡ true) × (fin.get m.entries d ≡ Some p))
  merged_cases d p e = entry_cases _ _ _ _ _ p (sym (get-merged (is_other_known r) (store_of m) r.store d) ∙ e)

  merged_more : (d : Dot) → set.contains r.store.seen d ≡ true → set.contains (merged m r).store.seen d ≡ true
  merged_more d e = contains-merged (is_other_known r) (store_of m) r.store d ∙ ap (λ b. b || (is_other_known r d.name && set.contains m.seen d)) e

  merged_too : (d : Dot) → is_other_known r d.name ≡ true → set.contains m.seen d ≡ true → set.contains (merged m r).store.seen d ≡ true
  merged_too d known e = contains-merged (is_other_known r) (store_of m) r.store d
      ∙ ap (λ b. set.contains r.store.seen d || b) (and_from _ _ known e) ∙ or-true (set.contains r.store.seen d)

  merged_own : (d : Dot) → d.name ≡ r.own → set.contains r.store.seen d ≡ set.contains (merged m r).store.seen d
  merged_own d e = sym (contains-merged (is_other_known r) (store_of m) r.store d ∙ ap (λ b. set.contains r.store.seen d || (b && set.contains m.seen d))
      (own_is_not_other r d e) ∙ or-false (set.contains r.store.seen d))

  pub change_merged : IsSound r → AreSeen m.seen m.entries → Change r (Some m) None (merged m r)
  change_merged h live = record {
    own = refl;
    sound = record {
      clocks = clocks_same r.own r.store.seen (merged m r).store.seen merged_own h.clocks;
      live = λ d e. seen d (fin.get (merged m r).store.entries d) refl e;
      delta_live = h.delta_live;
      delta_own = h.delta_own;
      delta_in = λ d p e. own_entry-merged m r d (h.delta_own d (h.delta_live d (ap is_some e))) ∙ h.delta_in d p e;
    };
    keeps = λ d _ e. merged_more d e;
    comes = λ d p e. comes d p (merged_cases d p e);
    made = λ _ none. absurd (cc);
  }
    where
      seen_at : (d : Dot) (p : Presence) → (fin.get r.store.entries d ≡ Some p) ⊎ ((is_other_known r d.name ≡ true) × (fin.get m.entries d ≡ Some p)) →
          set.contains (merged m r).store.seen d ≡ true
      seen_at d p (inl e) = merged_more d (h.live d (ap is_some e))
      seen_at d p (inr e) = merged_too d e.0 (live d (ap is_some e.1))

      seen : (d : Dot) (o : Option Presence) → fin.get (merged m r).store.entries d ≡ o → is_some o ≡ true → set.contains (merged m r).store.seen d ≡ true
      seen d None is some = absurd (cc)
      seen d (Some p) is some = seen_at d p (merged_cases d p is)

      comes : (d : Dot) (p : Presence) → (fin.get r.store.entries d ≡ Some p) ⊎ ((is_other_known r d.name ≡ true) × (fin.get m.entries d ≡ Some p)) →
          ComesFrom r (Some m) None d p
      comes d p (inl e) = inl e
      comes d p (inr e) = inr (inl e.1)

-- statuses

pub change_status : (r : Replica) (name : ℕ) (s : Status) → IsSound r → Change r None None (with_status name s r)
change_status r name s h = record {
  own = refl;
  sound = record { clocks = h.clocks; live = h.live; delta_live = h.delta_live; delta_own = h.delta_own; delta_in = h.delta_in };
  keeps = λ d _ e. e;
  comes = λ d p e. inl e;
  made = λ _ none. absurd (cc);
}

pub change_forgotten : (r : Replica) (name : ℕ) → IsSound r → (name == r.own) ≡ false → Change r None None (forgotten name r)
change_forgotten r name h other = record {
  own = refl;
  sound = record {
    clocks = clocks_same r.own r.store.seen (forgotten name r).store.seen own_seen h.clocks;
    live = seen-names (is_other name) r.store.seen r.store.entries h.live;
    delta_live = h.delta_live;
    delta_own = h.delta_own;
    delta_in = λ d p e. own_entry d (h.delta_own d (h.delta_live d (ap is_some e))) ∙ h.delta_in d p e;
  };
  keeps = λ d mine e. sym (own_seen d mine) ∙ e;
  comes = λ d p e. inl (was d p (is_other name d.name) (sym (get-names r.store.entries (is_other name) d) ∙ e));
  made = λ _ none. absurd (cc);
}
  where
    apart : (d : Dot) → d.name ≡ r.own → is_other name d.name ≡ true
    apart d mine = ap not (ne_eqb d.name name (λ e. eqb-false name r.own other (sym e ∙ mine)))

    own_seen : (d : Dot) → d.name ≡ r.own → set.contains r.store.seen d ≡ set.contains (forgotten name r).store.seen d
    own_seen d mine =
        sym (contains-retain r.store.seen (λ d. is_other name d.name) d ∙ ap (λ b. set.contains r.store.seen d && b) (apart d mine)
        ∙ and-true (set.contains r.store.seen d))

    own_entry : (d : Dot) → d.name ≡ r.own → fin.get (forgotten name r).store.entries d ≡ fin.get r.store.entries d
    own_entry d mine = get-names r.store.entries (is_other name) d ∙ ap (λ b. cond b (fin.get r.store.entries d) None) (apart d mine)

    was : (d : Dot) (p : Presence) (b : Bool) → cond b (fin.get r.store.entries d) None ≡ Some p → fin.get r.store.entries d ≡ Some p
    was d p true e = e
    was d p false e = absurd (cc)

-- sends

pub change_sent : (r : Replica) → IsSound r → Change r None None (without_delta r)
change_sent r h = record {
  own = refl;
  sound = record {
    clocks = h.clocks;
    live = h.live;
    delta_live = seen_none set.empty;
    delta_own = λ d e. absurd (no_dot d e);
    delta_in = λ d p e. absurd (no_entry d p e);
  };
  keeps = λ d _ e. e;
  comes = λ d p e. inl e;
  made = λ _ none. absurd (cc);
}
