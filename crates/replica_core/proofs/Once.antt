-- Own entries differ in process, topic or key: what keeps them so.
use Rattle.std.proofs.Common.{◌≡◌, ◌≢◌, ◌⊎◌, inl, inr, ℕ, ◌==◌, ◌&&◌, not, T, Bool, true, false, cond, List, [], ◌∷◌, map, filter}
use Rattle.std.proofs.Common.{slice_get, Some, None, refl, sym, ap, subst, ◌∙◌, true≢false}
use Rattle.std.proofs.Math.Facts.{and_yes}
use Rattle.std.proofs.lemmas.Bool.{and_right, eq-eqb}
use Rattle.std.specs.Ordering.{is_lt}
use Rattle.std.specs.FinMap as fin
use Rattle.std.specs.FinMap.Entries.{below_all, is_sorted}
use Rattle.std.specs.FinSet as set
use Rattle.dots_core.specs.declared.dot.Dot.{Dot}
use Rattle.dots_core.specs.Dots.{dot_cmp}
use Rattle.dots_core.proofs.Order.{dot_cases, is_dot, is_dot_same, is_dot_below}
use Rattle.payload_core.specs.Presences.{Presence, Entries, is_tracked_as}
use Rattle.payload_core.specs.Messages.{Message}
use Rattle.store_core.specs.Stores.{store_of}
use Rattle.block_core.proofs.EntryMaps.{get_inserted, get_insert_other, get_removed, get_remove_other}
use Rattle.store_core.proofs.StoreMerges.{entry_after, get-merged}
use Rattle.payload_core.proofs.TrackedDots.{EachPasses, as_tracked, tracked_as, dots_of_pass, none_passes}
use Rattle.replica_core.specs.Replicas.{Replica, fresh, own_dots, tracked_dots, dropped, joined, is_known}
use Rattle.replica_core.specs.Deliveries.{is_other_known, merged}
use Rattle.replica_core.specs.Refusals.{is_some_dot, is_tracked}
use Rattle.replica_core.specs.Invariant.{IsOnce}

-- an entry after an insert is the new one or was there
pub inserted_entry : (m : Entries) (k q : Dot) (v w : Presence) → fin.get (fin.insert m k v) q ≡ Some w →
    ((q ≡ k) × (w ≡ v)) ⊎ ((q ≢ k) × (fin.get m q ≡ Some w))
inserted_entry m k q v w h = go (dot_cases q k)
  where
    go : (q ≡ k) ⊎ (q ≢ k) → ((q ≡ k) × (w ≡ v)) ⊎ ((q ≢ k) × (fin.get m q ≡ Some w))
    go (inl e) = let at : Some w ≡ Some v = sym h ∙ ap (fin.get (fin.insert m k v)) e ∙ get_inserted m k v in inl (e, cc)
    go (inr d) = inr (d, sym (get_insert_other m k q v d) ∙ h)

-- an entry after a removal was there, at another dot
pub removed_entry : (m : Entries) (k q : Dot) (w : Presence) → fin.get (fin.remove m k) q ≡ Some w → (q ≢ k) × (fin.get m q ≡ Some w)
removed_entry m k q w h = go (dot_cases q k)
  where
    go : (q ≡ k) ⊎ (q ≢ k) → (q ≢ k) × (fin.get m q ≡ Some w)
    go (inl e) = let none : None ≡ Some w = sym (get_removed m k) ∙ ap (fin.get (fin.remove m k)) (sym e) ∙ h in absurd (cc)
    go (inr d) = (d, sym (get_remove_other m k q d) ∙ h)

-- a replica with no own entry that it didn't have
pub once_kept : (r s : Replica) → s.own ≡ r.own → ((d : Dot) (p : Presence) → d.name ≡ r.own → fin.get s.store.entries d ≡ Some p →
    fin.get r.store.entries d ≡ Some p) → IsOnce r → IsOnce s
once_kept r s own old once d e p q md me at bt ep et ek = once d e p q (md ∙ own) (me ∙ own) (old d p (md ∙ own) at) (old e q (me ∙ own) bt) ep et ek

none_of : (ds : List Dot) → is_some_dot ds ≡ false → ds ≡ []
none_of [] h = refl
none_of (d ∷ ds) h = absurd (true≢false h)

pub once_joined : (r : Replica) (p : Presence) → IsOnce r → is_tracked r p.pid p.topic p.key ≡ false → IsOnce (joined p r)
once_joined r p once free d e a b md me at bt ep et ek =
    go (inserted_entry r.store.entries (fresh r) d p a at) (inserted_entry r.store.entries (fresh r) e p b bt)
  where
    other : (d : Dot) (q : Presence) → d.name ≡ r.own → fin.get r.store.entries d ≡ Some q → q.pid ≡ p.pid → q.topic ≡ p.topic → q.key ≡ p.key → ⊥
    other d q mine at ep et ek =
        let none = none_passes r.own (is_tracked_as p.pid p.topic p.key) r.store.entries
        (none_of (own_dots r (is_tracked_as p.pid p.topic p.key)) free) d q mine at in
        true≢false (sym (as_tracked p.pid p.topic p.key q (ep, et, ek)) ∙ none)

    go : ((d ≡ fresh r) × (a ≡ p)) ⊎ ((d ≢ fresh r) × (fin.get r.store.entries d ≡ Some a)) →
        ((e ≡ fresh r) × (b ≡ p)) ⊎ ((e ≢ fresh r) × (fin.get r.store.entries e ≡ Some b)) → d ≡ e
    go (inl x) (inl y) = x.0 ∙ sym y.0
    go (inl x) (inr y) =
        absurd (other e b me y.1 (sym ep ∙ ap (λ (p : Presence). p.pid) x.1) (sym et ∙ ap (λ (p : Presence). p.topic) x.1)
        (sym ek ∙ ap (λ (p : Presence). p.key) x.1))
    go (inr x) (inl y) = absurd (other d a md x.1 (ep ∙ ap (λ (p : Presence). p.pid) y.1) (et ∙ ap (λ (p : Presence). p.topic) y.1)
        (ek ∙ ap (λ (p : Presence). p.key) y.1))
    go (inr x) (inr y) = once d e a b md me x.1 y.1 ep et ek

-- there is one own entry at most of a process, topic and key

below_first : (test : Dot × Presence → Bool) (k d : Dot) (ds : List Dot) (ps : List (Dot × Presence)) → T (below_all dot_cmp k ps) →
    map (λ (p : Dot × Presence). p.0) (filter test ps) ≡ d ∷ ds → T (is_lt (dot_cmp k d))
below_first test k d ds [] below is = absurd (cc)
below_first test k d ds (p ∷ ps) below is =
    let parts = and_yes (is_lt (dot_cmp k p.0)) (below_all dot_cmp k ps) below in go (test p) is parts.0 (below_first test k d ds ps parts.1)
  where
    go : (b : Bool) → map (λ (p : Dot × Presence). p.0) (cond b (p ∷ filter test ps) (filter test ps)) ≡ d ∷ ds →
        T (is_lt (dot_cmp k p.0)) → (map (λ (p : Dot × Presence). p.0) (filter test ps) ≡ d ∷ ds → T (is_lt (dot_cmp k d))) → T (is_lt (dot_cmp k d))
    go true is here later = let head : p.0 ≡ d = cc in subst (λ x. T (is_lt (dot_cmp k x))) head here
    go false is here later = later is

first_below : (test : Dot × Presence → Bool) (d e : Dot) (ds : List Dot) (ps : List (Dot × Presence)) → T (is_sorted dot_cmp ps) →
    map (λ (p : Dot × Presence). p.0) (filter test ps) ≡ d ∷ e ∷ ds → T (is_lt (dot_cmp d e))
first_below test d e ds [] sorted is = absurd (cc)
first_below test d e ds (p ∷ ps) sorted is =
    let parts = and_yes (below_all dot_cmp p.0 ps) (is_sorted dot_cmp ps) sorted in go (test p) is parts.0 (first_below test d e ds ps parts.1)
  where
    go : (b : Bool) → map (λ (p : Dot × Presence). p.0) (cond b (p ∷ filter test ps) (filter test ps)) ≡ d ∷ e ∷ ds →
        T (below_all dot_cmp p.0 ps) → (map (λ (p : Dot × Presence). p.0) (filter test ps) ≡ d ∷ e ∷ ds → T (is_lt (dot_cmp d e))) → T (is_lt (dot_cmp d e))
    go true is below later =
        let head : p.0 ≡ d = cc in
        let rest : map (λ (p : Dot × Presence). p.0) (filter test ps) ≡ e ∷ ds = cc in
        subst (λ x. T (is_lt (dot_cmp x e))) head (below_first test p.0 e ds ps below rest)
    go false is below later = later is

module _ (r : Replica) (once : IsOnce r) (pid : ℕ) (topic key : List ℕ) where
  abbrev IsSuch : Dot → Type 0
  IsSuch d = (d.name ≡ r.own) × ((p : Presence) × (fin.get r.store.entries d ≡ Some p) × (is_tracked_as pid topic key p ≡ true))

  such_are_same : (d e : Dot) → IsSuch d → IsSuch e → d ≡ e
  such_are_same d e h k =
      let one = tracked_as pid topic key h.1.0 h.1.2 in
      let other = tracked_as pid topic key k.1.0 k.1.2 in
      once d e h.1.0 k.1.0 h.0 k.0 h.1.1 k.1.1 (one.0 ∙ sym other.0) (one.1 ∙ sym other.1) (one.2 ∙ sym other.2)

  only_one : (ds : List Dot) (d : Dot) → tracked_dots r pid topic key ≡ ds →
      EachPasses r.own (is_tracked_as pid topic key) r.store.entries ds → slice_get ds 0 ≡ Some d → ds ≡ d ∷ []
  only_one [] d is such first = absurd (cc)
  only_one (e ∷ []) d is such first = let same : e ≡ d = cc in ap (λ e. e ∷ []) same
  only_one (e ∷ f ∷ ds) d is such first =
      let below = first_below (λ (p : Dot × Presence). (p.0.name == r.own) && is_tracked_as pid topic key p.1) e f ds
      (fin.entries r.store.entries) (fin.entries_sorted r.store.entries) is in
      let same = such_are_same f e such.1.0 such.0 in
      absurd (true≢false (sym (is_dot_same e) ∙ ap (is_dot e) (sym same) ∙ is_dot_below e f below))

  pub one_tracked : (d : Dot) → slice_get (tracked_dots r pid topic key) 0 ≡ Some d → tracked_dots r pid topic key ≡ d ∷ []
  one_tracked d first = only_one (tracked_dots r pid topic key) d refl (dots_of_pass r.own (is_tracked_as pid topic key) r.store.entries) first

  -- without that entry there is none
  pub dropped_untracked : (d : Dot) → tracked_dots r pid topic key ≡ d ∷ [] → is_tracked (dropped d r) pid topic key ≡ false
  dropped_untracked d is = go (tracked_dots (dropped d r) pid topic key) (dots_of_pass r.own (is_tracked_as pid topic key) (fin.remove r.store.entries d))
    where
      here : IsSuch d
      here = (subst (EachPasses r.own (is_tracked_as pid topic key) r.store.entries) is (dots_of_pass r.own (is_tracked_as pid topic key) r.store.entries)).0

      go : (ds : List Dot) → EachPasses r.own (is_tracked_as pid topic key) (fin.remove r.store.entries d) ds → is_some_dot ds ≡ false
      go [] such = refl
      go (e ∷ ds) such =
          let old = removed_entry r.store.entries d e such.0.1.0 such.0.1.1 in
          absurd (old.0 (such_are_same e d (such.0.0, (such.0.1.0, old.1, such.0.1.2)) here))

-- own names are no others
pub own_is_not_other : (r : Replica) (d : Dot) → d.name ≡ r.own → is_other_known r d.name ≡ false
own_is_not_other r d e = and_right (is_known r d.name) _ (ap not (eq-eqb d.name r.own e))

pub own_entry-merged : (m : Message) (r : Replica) (d : Dot) → d.name ≡ r.own → fin.get (merged m r).store.entries d ≡ fin.get r.store.entries d
own_entry-merged m r d mine =
    get-merged (is_other_known r) (store_of m) r.store d
    ∙ ap (λ k. entry_after k (set.contains r.store.seen d) (fin.get r.store.entries d) (set.contains m.seen d) (fin.get m.entries d))
    (own_is_not_other r d mine)

pub once_merged : (m : Message) (r : Replica) → IsOnce r → IsOnce (merged m r)
once_merged m r once = once_kept r (merged m r) refl (λ d p mine h. sym (own_entry-merged m r d mine) ∙ h) once
