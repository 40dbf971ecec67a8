-- That what is kept of a call tells what the call moved.
use Rattle.std.proofs.Common.{◌≡◌, ◌≢◌, inl, inr, ℕ, ◌==◌, ◌&&◌, not, T, Bool, true, false, cond, List, [], ◌∷◌, map, Option, Some, None, is_some}
use Rattle.std.proofs.Common.{refl, sym, ap, subst, ◌∙◌, true≢false}
use Rattle.std.proofs.Math.Facts.{and_yes}
use Rattle.std.proofs.lemmas.Bool.{eqb-true}
use Rattle.std.specs.FinMap as fin
use Rattle.std.specs.FinMap.Entries.{below_all, is_sorted}
use Rattle.std.specs.FinSet as set
use Rattle.std.specs.List.{AllByRecursion}
use Rattle.std.specs.Option.{option_or}
use Rattle.std.specs.Ordering.{is_lt}
use Rattle.dots_core.specs.declared.dot.Dot.{Dot}
use Rattle.dots_core.specs.Dots.{dot_cmp}
use Rattle.dots_core.proofs.Order.{is_dot, is_dot_below, is_dot_same}
use Rattle.store_core.specs.Delivered.{Delivered}
use Rattle.payload_core.specs.EntryLists.{pairs}
use Rattle.store_core.specs.EntryMoves.{AreNew, picked}
use Rattle.store_core.specs.ForgottenNames.{Forgotten}
use Rattle.store_core.specs.LeavesTogether.{Differ}
use Rattle.store_core.specs.LeftEntries.{Left}
use Rattle.payload_core.specs.Presences.{Presence, over, presence_of}
use Rattle.store_core.specs.Stores.{Store, arrivals, departures, is_new, leaves, remaining, store_of}
use Rattle.block_core.proofs.EntryMaps.{get-over, get-retain}
use Rattle.store_core.proofs.PutBack.{picked_new, picked_retained}
use Rattle.store_core.proofs.StoreBack.{store_restored}
use Rattle.replica_core.specs.declared.status.Status.{Status}
use Rattle.replica_core.specs.declared.status.Status.TheVariants.{Up, Down}
use Rattle.replica_core.specs.Changes.{ChangeLeadsBack, OfJoin, OfLeave, OfLeaveAll, OfUpdate, OfUp, OfDown, OfPermdown, OfDeliver}
use Rattle.replica_core.specs.Deliveries.{is_other_known}
use Rattle.replica_core.specs.Moves.{Moves, MovesLaw, is_named, name_if}
use Rattle.replica_core.specs.Replicas.{Replica, is_online}
use Rattle.replica_core.specs.Views.{View, is_some_up}
use Rattle.replica_core.proofs.Back.{back_holds, restorable_leave, restorable_update, was_down}
use Rattle.replica_core.proofs.Destroyed.{remembered_is, remembered_new, undelivered_is}
use Rattle.replica_core.proofs.ProcessLeft.{restorable_all}
use Rattle.replica_core.proofs.Views.{get_insert_view, get_remove_view}

never : (t : Bool) → false ≡ (t && not t)
never true = refl
never false = refl

-- where each name is up as before, none is up from then on, and none no more
no_name : (one other : Bool) → one ≡ other → false ≡ (one && not other)
no_name one other same = never one ∙ ap (λ t. one && not t) same

module _ (b a : Replica) (view : a.view ≡ b.view) where
  none_shown : (n : ℕ) → false ≡ (is_online b n && not (is_online a n))
  none_shown n = no_name (is_online b n) (is_online a n) (ap (λ (v : View). is_some_up (fin.get v n)) (sym view))

  none_hidden : (n : ℕ) → false ≡ (is_online a n && not (is_online b n))
  none_hidden n = no_name (is_online a n) (is_online b n) (ap (λ (v : View). is_some_up (fin.get v n)) view)

join_moves : (b a : Replica) → ChangeLeadsBack OfJoin b a → Moves OfJoin b a
join_moves b a h =
    let was = back_holds OfJoin b a h in
    let view = ap (λ (r : Replica). r.view) (sym was) in
    record {
      entries = ap (λ (r : Replica). r.store.entries) (sym was);
      gone = tt;
      differ = (tt, tt);
      shown = none_shown b a view;
      hidden = none_hidden b a view;
      one = inr (refl, refl);
    }

leave_moves : (l : Left) (b a : Replica) → ChangeLeadsBack (OfLeave l) b a → Moves (OfLeave l) b a
leave_moves l b a h =
    let c = h.call in
    let view = ap (λ (r : Replica). r.view) (sym c.gives) in
    record {
      entries =
          sym (ap (λ (s : Store). s.entries) (store_restored l c.dot a.store a.delta c.stood))
          ∙ ap (λ (r : Replica). fin.insert r.store.entries l.entry.dot (presence_of l.entry)) (sym c.gives);
      gone = ((restorable_leave l b a h).place.entry, tt);
      differ = tt;
      shown = none_shown b a view;
      hidden = none_hidden b a view;
      one = inr (refl, refl);
    }

update_moves : (l : Left) (b a : Replica) → ChangeLeadsBack (OfUpdate l) b a → Moves (OfUpdate l) b a
update_moves l b a h =
    let r = restorable_update l b a h in
    let view = ap (λ (r : Replica). r.view) (sym r.back) in
    record {
      entries = ap (λ (r : Replica). r.store.entries) (sym r.back);
      gone = (r.place.entry, tt);
      differ = (tt, tt);
      shown = none_shown b a view;
      hidden = none_hidden b a view;
      one = inr (refl, refl);
    }

leave_all_moves : (ls : List Left) (b a : Replica) → ChangeLeadsBack (OfLeaveAll ls) b a → Moves (OfLeaveAll ls) b a
leave_all_moves ls b a h =
    let r = restorable_all ls b a h.earlier h.call in
    let view = ap (λ (r : Replica). r.view) (sym r.back) in
    record {
      entries = ap (λ (r : Replica). r.store.entries) (sym r.back);
      gone = r.new;
      differ = tt;
      shown = none_shown b a view;
      hidden = none_hidden b a view;
      one = inr (refl, refl);
    }

-- the keys of a map differ
keys_differ : (es : List (Dot × Presence)) → T (is_sorted dot_cmp es) → Differ (map (λ (e : Dot × Presence). e.0) es)
keys_differ [] sorted = tt
keys_differ (e ∷ es) sorted =
    let parts = and_yes (below_all dot_cmp e.0 es) (is_sorted dot_cmp es) sorted in (above e.0 es parts.0, keys_differ es parts.1)
  where
    above : (d : Dot) (fs : List (Dot × Presence)) → T (below_all dot_cmp d fs) →
        AllByRecursion (λ (x : Dot). x ≢ d) (map (λ (e : Dot × Presence). e.0) fs)
    above d [] below = tt
    above d (f ∷ fs) below =
        let parts = and_yes (is_lt (dot_cmp d f.0)) (below_all dot_cmp d fs) below in (
          (λ e. true≢false (sym (is_dot_same d) ∙ ap (is_dot d) (sym e) ∙ is_dot_below d f.0 parts.0)),
          above d fs parts.1,
        )

-- no entry that leaves by a delivery is among those that join, nor stays
module _ (named : ℕ → Bool) (other s : Store) (q : Dot) (gone : leaves named other q ≡ true) where
  none_remains : fin.get (remaining named other s) q ≡ None
  none_remains = get-retain s.entries (λ d. not (leaves named other d)) q ∙ ap (λ b. cond (not b) (fin.get s.entries q) None) gone

  none_arrives : set.contains s.seen q ≡ true → fin.get (arrivals named other s) q ≡ None
  none_arrives seen =
      get-retain other.entries (is_new named s) q
      ∙ ap (λ b. cond (named q.name && not b) (fin.get other.entries q) None) seen ∙ no_arrival (named q.name)
    where
      no_arrival : (b : Bool) → cond (b && not true) (fin.get other.entries q) None ≡ None
      no_arrival true = refl
      no_arrival false = refl

  gone_after : set.contains s.seen q ≡ true → fin.get (over (arrivals named other s) (remaining named other s)) q ≡ None
  gone_after seen =
      get-over (arrivals named other s) (remaining named other s) q
      ∙ ap (λ o. option_or o (fin.get (remaining named other s) q)) (none_arrives seen) ∙ none_remains

was_there : (b : Bool) (o : Option Presence) → is_some (cond b o None) ≡ true → b ≡ true
was_there true o h = refl
was_there false o h = absurd (true≢false (sym h))

deliver_moves : (d : Delivered) (b a : Replica) → ChangeLeadsBack (OfDeliver d) b a → Moves (OfDeliver d) b a
deliver_moves d b a h =
    let c = h.call in
    let named = is_other_known a in
    let other = store_of c.message in
    let view = ap (λ (r : Replica). r.view) (sym c.gives) in
    let left : picked (fin.keys (departures named other a.store)) a.store.entries ≡ pairs d.left =
    picked_retained a.store.entries (leaves named other) ∙ sym c.destroyed.left in
    record {
      entries = ap (λ (s : Store). s.entries) (sym (undelivered_is d a b h.earlier c));
      gone = subst (λ ps. AreNew ps b.store.entries) left
          (picked_new (fin.keys (departures named other a.store)) a.store.entries b.store.entries (λ q among live.
          ap (λ (r : Replica). fin.get r.store.entries q) c.gives
          ∙ gone_after named other a.store q
          (was_there (leaves named other q) (fin.get a.store.entries q) (ap is_some (sym (get-retain a.store.entries (leaves named other) q))
          ∙ fin.contains_key-keys (departures named other a.store) q ∙ among)) (h.earlier.live q live)));
      differ = subst Differ (sym c.destroyed.joined) (keys_differ (fin.entries (arrivals named other a.store))
          (fin.entries_sorted (arrivals named other a.store)));
      shown = none_shown b a view;
      hidden = none_hidden b a view;
      one = inr (refl, refl);
    }

-- a status that was set

module _ (v : View) (name : ℕ) (before : Option Status) (stood : before ≡ fin.get v name) (n : ℕ) where
  same_before : (n == name) ≡ true → before ≡ fin.get v n
  same_before is = stood ∙ ap (fin.get v) (sym (eqb-true n name is))

  up_shown : is_named (name_if (not (is_some_up before)) name) n ≡ (is_some_up (fin.get (fin.insert v name Up) n) && not (is_some_up (fin.get v n)))
  up_shown = go (n == name) refl (is_some_up before) refl
      ∙ ap (λ o. is_some_up o && not (is_some_up (fin.get v n))) (sym (get_insert_view v name n Up))
    where
      go : (b : Bool) → (n == name) ≡ b → (up : Bool) → is_some_up before ≡ up →
          is_named (name_if (not up) name) n ≡ (is_some_up (cond b (Some Up) (fin.get v n)) && not (is_some_up (fin.get v n)))
      go true is true up = ap not (sym up ∙ ap is_some_up (same_before is))
      go true is false up = is ∙ ap not (sym up ∙ ap is_some_up (same_before is))
      go false is true up = never (is_some_up (fin.get v n))
      go false is false up = is ∙ never (is_some_up (fin.get v n))

  up_hides_none : false ≡ (is_some_up (fin.get v n) && not (is_some_up (fin.get (fin.insert v name Up) n)))
  up_hides_none = go (n == name) (is_some_up (fin.get v n)) refl
      ∙ ap (λ o. is_some_up (fin.get v n) && not (is_some_up o)) (sym (get_insert_view v name n Up))
    where
      go : (b up : Bool) → is_some_up (fin.get v n) ≡ up → false ≡ (is_some_up (fin.get v n) && not (is_some_up (cond b (Some Up) (fin.get v n))))
      go true true up = ap (λ t. t && false) (sym up)
      go true false up = ap (λ t. t && false) (sym up)
      go false t up = never (is_some_up (fin.get v n))

  down_hidden : is_named (name_if (is_some_up before) name) n ≡ (is_some_up (fin.get v n) && not (is_some_up (fin.get (fin.insert v name Down) n)))
  down_hidden = go (n == name) refl (is_some_up before) refl
      ∙ ap (λ o. is_some_up (fin.get v n) && not (is_some_up o)) (sym (get_insert_view v name n Down))
    where
      go : (b : Bool) → (n == name) ≡ b → (up : Bool) → is_some_up before ≡ up →
          is_named (name_if up name) n ≡ (is_some_up (fin.get v n) && not (is_some_up (cond b (Some Down) (fin.get v n))))
      go true is true up = is ∙ ap (λ t. t && true) (sym up ∙ ap is_some_up (same_before is))
      go true is false up = ap (λ t. t && true) (sym up ∙ ap is_some_up (same_before is))
      go false is true up = is ∙ never (is_some_up (fin.get v n))
      go false is false up = never (is_some_up (fin.get v n))

  down_shows_none : false ≡ (is_some_up (fin.get (fin.insert v name Down) n) && not (is_some_up (fin.get v n)))
  down_shows_none = go (n == name)
      ∙ ap (λ o. is_some_up o && not (is_some_up (fin.get v n))) (sym (get_insert_view v name n Down))
    where
      go : (b : Bool) → false ≡ (is_some_up (cond b (Some Down) (fin.get v n)) && not (is_some_up (fin.get v n)))
      go true = refl
      go false = never (is_some_up (fin.get v n))

up_moves : (name : ℕ) (before : Option Status) (b a : Replica) → ChangeLeadsBack (OfUp name before) b a → Moves (OfUp name before) b a
up_moves name before b a h =
    let c = h.call in
    subst (λ b. Moves (OfUp name before) b a) (sym c.gives) (record {
      entries = refl;
      gone = tt;
      differ = tt;
      shown = up_shown a.view name before c.stood;
      hidden = up_hides_none a.view name before c.stood;
      one = inl (refl, refl);
    })

down_moves : (name : ℕ) (before : Option Status) (b a : Replica) → ChangeLeadsBack (OfDown name before) b a → Moves (OfDown name before) b a
down_moves name before b a h =
    let c = h.call in
    subst (λ b. Moves (OfDown name before) b a) (sym c.gives) (record {
      entries = refl;
      gone = tt;
      differ = tt;
      shown = down_shows_none a.view name before c.stood;
      hidden = down_hidden a.view name before c.stood;
      one = inl (refl, refl);
    })

-- a name that is down is forgotten
still_down : (v : View) (name : ℕ) → fin.get v name ≡ Some Down → (n : ℕ) → is_some_up (fin.get (fin.remove v name) n) ≡ is_some_up (fin.get v n)
still_down v name down n = ap is_some_up (get_remove_view v name n) ∙ go (n == name) refl
  where
    go : (b : Bool) → (n == name) ≡ b → is_some_up (cond b None (fin.get v n)) ≡ is_some_up (fin.get v n)
    go true is = ap is_some_up (sym (ap (fin.get v) (eqb-true n name is) ∙ down))
    go false is = refl

permdown_moves : (name : ℕ) (f : Forgotten) (b a : Replica) → ChangeLeadsBack (OfPermdown name f) b a → Moves (OfPermdown name f) b a
permdown_moves name f b a h =
    let c = h.call in
    let same : (n : ℕ) → is_online b n ≡ is_online a n =
    λ n. ap (λ (r : Replica). is_some_up (fin.get r.view n)) c.gives ∙ still_down a.view name (was_down a name c.accepted) n in
    record {
      entries = ap (λ (s : Store). s.entries) (sym (remembered_is name f a b c));
      gone = remembered_new name f a b c;
      differ = tt;
      shown = λ n. no_name (is_online b n) (is_online a n) (same n);
      hidden = λ n. no_name (is_online a n) (is_online b n) (sym (same n));
      one = inr (refl, refl);
    }

pub moves_hold : MovesLaw
moves_hold OfJoin b a h = join_moves b a h
moves_hold (OfLeave l) b a h = leave_moves l b a h
moves_hold (OfLeaveAll ls) b a h = leave_all_moves ls b a h
moves_hold (OfUpdate l) b a h = update_moves l b a h
moves_hold (OfUp name before) b a h = up_moves name before b a h
moves_hold (OfDown name before) b a h = down_moves name before b a h
moves_hold (OfPermdown name f) b a h = permdown_moves name f b a h
moves_hold (OfDeliver d) b a h = deliver_moves d b a h
