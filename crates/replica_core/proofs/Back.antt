-- A replica as it was before a call.
use Rattle.std.proofs.Common.{◌≡◌, ◌≢◌, ℕ, ◌<◌, ◌==◌, not, Bool, true, false, List, [], ◌∷◌, Option, Some, None, is_some, refl}
use Rattle.std.proofs.Common.{sym, ap, subst, ◌∙◌, arith, true≢false}
use Rattle.std.specs.FinMap as fin
use Rattle.std.specs.FinSet as set
use Rattle.dots_core.specs.declared.dot.Dot.{Dot}
use Rattle.dots_core.specs.Dots.{dot, IsValid}
use Rattle.dots_core.proofs.OwnClock.{count_more}
use Rattle.payload_core.specs.Presences.{Presence, is_tracked_as}
use Rattle.block_core.proofs.EntryMaps.{get_removed}
use Rattle.store_core.specs.Stores.{without}
use Rattle.store_core.specs.LeftEntries.{Left, Stood}
use Rattle.store_core.proofs.StoreBack.{at_dot, delta_restored, has_place, none_beside, store_restored, unjoined, unticked}
use Rattle.replica_core.specs.declared.status.Status.TheVariants.{Up, Down}
use Rattle.replica_core.specs.Replicas.{Replica, own_clock, fresh, tracked_dots, joined, dropped, ticked, left}
use Rattle.replica_core.specs.declared.status.Status.{Status}
use Rattle.replica_core.specs.declared.replica_fault.ReplicaFault.TheVariants.{OwnReplica, NotKnown, NotDown}
use Rattle.replica_core.specs.Refusals.{first_of, permdown_refusal}
use Rattle.replica_core.specs.Views.{is_some_up}
use Rattle.replica_core.specs.Leaves.{AreOwnSeen}
use Rattle.replica_core.specs.Invariant.{IsReplica}
use Rattle.replica_core.specs.Changes.{BackLaw, Change, ChangeGivesBack, ChangeLeadsBack, OfJoin, OfLeave, OfUpdate, OfUp, OfDown}
use Rattle.replica_core.specs.Changes.{OfPermdown, OfDeliver, Restorable, back, with_left, without_last, OfLeaveAll}
use Rattle.replica_core.proofs.Destroyed.{remembered_is, undelivered_is}
use Rattle.replica_core.proofs.Invariant.{fresh_absent, fresh_absent_in_delta, fresh_unseen, fresh_unsent, kept_dropped}
use Rattle.replica_core.proofs.Left.{own_dots_seen}
use Rattle.replica_core.proofs.ProcessLeft.{restorable_all}
use Rattle.replica_core.proofs.Views.{down_again, old_again}

module _ (a : Replica) (h : IsReplica a) where
  next_last : dot a.own (own_clock (ticked a)) ≡ fresh a
  next_last = ap (dot a.own) (count_more a.own a.store.seen h.clocks)

  pub some_own : 0 < own_clock (ticked a)
  some_own = let more = count_more a.own a.store.seen h.clocks in omega (arith, more)

  pub joined_back : (p : Presence) → without_last (joined p a) ≡ a
  joined_back p =
      ap (λ d. record (joined p a) { store = without d (joined p a).store; delta = without d (joined p a).delta }) next_last
      ∙ (λ i. record a {
        store = unjoined a.store (fresh a) p (fresh_unseen a h) (fresh_absent a h) i;
        delta =
            unjoined a.delta (fresh a) p (fresh_unsent a h) (fresh_absent_in_delta a h) i;
      })

  pub ticked_back : without_last (ticked a) ≡ a
  ticked_back =
      ap (λ d. record (ticked a) { store = without d (ticked a).store; delta = without d (ticked a).delta }) next_last
      ∙ (λ i. record a {
        store = unticked a.store (fresh a) (fresh_unseen a h) (fresh_absent a h) i;
        delta =
            unticked a.delta (fresh a) (fresh_unsent a h) (fresh_absent_in_delta a h) i;
      })

-- an own entry that left
module _ (a : Replica) (h : IsReplica a) (d : Dot) (own : AreOwnSeen (d ∷ []) a) (l : Left) (stood : Stood l d a.store a.delta) where
  not_fresh_dot : d ≢ fresh a
  not_fresh_dot e = true≢false (sym own.0.1 ∙ ap (set.contains a.store.seen) e ∙ fresh_unseen a h)

  pub dropped_back : with_left l (dropped d a) ≡ a
  dropped_back = λ i. record a { store = store_restored l d a.store a.delta stood i; delta = delta_restored l d a.store a.delta stood i }

  kept : IsReplica (dropped d a)
  kept = kept_dropped a h d own.0.0 own.0.1

  valid : IsValid l.entry.dot
  valid = subst IsValid (sym (at_dot l d a.store a.delta stood)) (h.valid d own.0.1)

  pub left_restorable : Restorable l (left d a) a
  left_restorable = record {
    earlier = h;
    back = ap (with_left l) (ticked_back (dropped d a) kept) ∙ dropped_back;
    some = some_own a h;
    valid = valid;
    place = has_place l d a.store a.delta stood (left d a).store (left d a).delta (get_removed a.store.entries d) (get_removed a.delta.entries d);
  }

  pub updated_restorable : (p : Presence) → Restorable l (joined p (dropped d a)) a
  updated_restorable p = record {
    earlier = h;
    back = ap (with_left l) (joined_back (dropped d a) kept p) ∙ dropped_back;
    some = some_own a h;
    valid = valid;
    place = has_place l d a.store a.delta stood (joined p (dropped d a)).store (joined p (dropped d a)).delta
        (none_beside a.store.entries d (fresh a) p not_fresh_dot) (none_beside a.delta.entries d (fresh a) p not_fresh_dot);
  }

own_tracked : (a : Replica) → IsReplica a → (pid : ℕ) (topic key : List ℕ) (d : Dot) → tracked_dots a pid topic key ≡ d ∷ [] → AreOwnSeen (d ∷ []) a
own_tracked a h pid topic key d one = subst (λ ds. AreOwnSeen ds a) one (own_dots_seen a (is_tracked_as pid topic key) h)

pub restorable_leave : (l : Left) (b a : Replica) → ChangeLeadsBack (OfLeave l) b a → Restorable l b a
restorable_leave l b a h =
    let c = h.call in
    subst (λ b. Restorable l b a) (sym c.gives) (left_restorable a h.earlier c.dot (own_tracked a h.earlier c.pid c.topic c.key c.dot c.tracked) l c.stood)

pub restorable_update : (l : Left) (b a : Replica) → ChangeLeadsBack (OfUpdate l) b a → Restorable l b a
restorable_update l b a h =
    let c = h.call in
    let p = c.presence in
    subst (λ b. Restorable l b a) (sym c.gives) (updated_restorable a h.earlier c.dot (own_tracked a h.earlier p.pid p.topic p.key c.dot c.tracked) l c.stood p)

pub was_down : (a : Replica) (name : ℕ) → permdown_refusal a name ≡ None → fin.get a.view name ≡ Some Down
was_down a name free = go (name == a.own) (fin.get a.view name) refl free
  where
    go : (own : Bool) (o : Option Status) → fin.get a.view name ≡ o →
        first_of ((own, OwnReplica) ∷ (not (is_some o), NotKnown) ∷ (is_some_up o, NotDown) ∷ []) ≡ None → o ≡ Some Down
    go true o is h = absurd (cc)
    go false None is h = absurd (cc)
    go false (Some Up) is h = absurd (cc)
    go false (Some Down) is h = refl

pub back_holds : BackLaw
back_holds OfJoin b a h = let c = h.call in ap without_last c.gives ∙ joined_back a h.earlier c.presence
back_holds (OfLeave l) b a h = (restorable_leave l b a h).back
back_holds (OfLeaveAll ls) b a h = (restorable_all ls b a h.earlier h.call).back
back_holds (OfUpdate l) b a h = (restorable_update l b a h).back
back_holds (OfUp name before) b a h =
    let c = h.call in ap (back (OfUp name before)) c.gives ∙ (λ i. record a { view = old_again a.view name Up before c.stood i })
back_holds (OfDown name before) b a h =
    let c = h.call in ap (back (OfDown name before)) c.gives ∙ (λ i. record a { view = old_again a.view name Down before c.stood i })
back_holds (OfPermdown name f) b a h =
    let c = h.call in (λ i. record b {
      store = remembered_is name f a b c i;
      view =
          (ap (λ (b : Replica). fin.insert b.view name Down) c.gives ∙ down_again a.view name (was_down a name c.accepted)) i;
    })
    ∙ (λ i. record (c.gives i) { store = a.store; view = a.view })
back_holds (OfDeliver d) b a h =
    let c = h.call in (λ i. record b { store = undelivered_is d a b h.earlier c i }) ∙ (λ i. record (c.gives i) { store = a.store })

-- a join leaves an own dot
pub some_after_join : (b a : Replica) → ChangeLeadsBack OfJoin b a → 0 < own_clock b
some_after_join b a h = let c = h.call in subst (λ b. 0 < own_clock b) (sym c.gives) (some_own a h.earlier)

-- what `undo` made is the one replica that the change leads back to
pub gives_back : (change : Change) (b new : Replica) → new ≡ back change b → ChangeGivesBack change b new
gives_back change b new is a h = is ∙ back_holds change b a h
