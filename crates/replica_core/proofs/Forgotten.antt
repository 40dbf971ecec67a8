-- Forgetting a name.
use Rattle.std.proofs.Common.{◌≡◌, ℕ, ◌==◌, ◌&&◌, not, Bool, true, false, cond, Option, Some, None, is_some, refl, sym}
use Rattle.std.proofs.Common.{ap, ◌∙◌, subst, arith}
use Rattle.std.proofs.lemmas.Bool.{eqb-false, ne_eqb, not-true}
use Rattle.std.specs.FinMap as fin
use Rattle.std.specs.FinSet as set
use Rattle.dots_core.specs.declared.dot.Dot.{Dot}
use Rattle.dots_core.proofs.OwnClock.{clocks_same, own_same}
use Rattle.dots_core.proofs.Sets.{contains-retain, of_names_cases}
use Rattle.payload_core.specs.Presences.{Presence}
use Rattle.block_core.proofs.EntryMaps.{get-names}
use Rattle.payload_core.proofs.SeenEntries.{seen-names}
use Rattle.store_core.specs.Stores.{Store, is_other, part}
use Rattle.store_core.proofs.MergedCounts.{len-retain}
use Rattle.replica_core.specs.Replicas.{Replica, own_clock, forgotten}
use Rattle.replica_core.specs.Views.{View}
use Rattle.replica_core.specs.Invariant.{IsReplica}
use Rattle.replica_core.proofs.Once.{once_kept}
use Rattle.replica_core.proofs.Views.{get_remove_view}

-- what it keeps

and_true : (a : Bool) → (a && true) ≡ a
and_true true = refl
and_true false = refl

some_part : (t : Bool) (o : Option Presence) (p : Presence) → cond t o None ≡ Some p → o ≡ Some p
some_part true o p h = h
some_part false o p h = absurd (cc)

module _ (r : Replica) (name : ℕ) (h : IsReplica r) (other : (name == r.own) ≡ false) where
  -- own dots are another name's
  apart : (d : Dot) → d.name ≡ r.own → is_other name d.name ≡ true
  apart d mine = ap not (ap (λ n. n == name) mine ∙ ne_eqb r.own name (λ e. eqb-false name r.own other (sym e)))

  own_kept : (d : Dot) → d.name ≡ r.own → set.contains r.store.seen d ≡ set.contains (forgotten name r).store.seen d
  own_kept d mine = sym (contains-retain r.store.seen (λ d. is_other name d.name) d
      ∙ ap (λ b. set.contains r.store.seen d && b) (apart d mine) ∙ and_true (set.contains r.store.seen d))

  own_entry : (d : Dot) → d.name ≡ r.own → fin.get (forgotten name r).store.entries d ≡ fin.get r.store.entries d
  own_entry d mine = get-names r.store.entries (is_other name) d ∙ ap (λ b. cond b (fin.get r.store.entries d) None) (apart d mine)

  pub kept_forgotten : IsReplica (forgotten name r)
  kept_forgotten = record {
    name = h.name;
    up = get_remove_view r.view name r.own ∙ ap (λ b. cond b None (fin.get r.view r.own)) (ne_eqb r.own name (λ e. eqb-false name r.own other (sym e))) ∙ h.up;
    limits = h.limits;
    valid = λ d e. h.valid d (of_names_cases r.store.seen (is_other name) d e).0;
    known = λ d e. let parts = of_names_cases r.store.seen (is_other name) d e in
        ap is_some (get_remove_view r.view name d.name) ∙ ap (λ b. is_some (cond b None (fin.get r.view d.name)))
        (not-true (d.name == name) parts.1) ∙ h.known d parts.0;
    clocks = clocks_same r.own r.store.seen (forgotten name r).store.seen own_kept h.clocks;
    clock = let same : own_clock (forgotten name r) ≡ own_clock r = sym
        (ap set.len (own_same r.own r.store.seen (forgotten name r).store.seen own_kept)) in let low = h.clock in omega arith;
    live = seen-names (is_other name) r.store.seen r.store.entries h.live;
    few = let less = len-retain r.store.entries (λ d. is_other name d.name) in let few = h.few in omega (arith, less, few);
    once = once_kept r (forgotten name r) refl (λ d p mine e. sym (own_entry d mine) ∙ e) h.once;
    delta_live = h.delta_live;
    delta_own = λ d e. let old = h.delta_own d e in (old.0, sym (own_kept d old.0) ∙ old.1);
    delta_in = λ d p e. own_entry d (h.delta_own d (h.delta_live d (ap is_some e))).0 ∙ h.delta_in d p e;
  }

-- as edits, where `r` is the replica as its fields say it

pub forget_is : (r now : Replica) (name : ℕ) (store : Store) (view : View) → r ≡ now → store ≡ part (is_other name) r.store →
    view ≡ fin.remove r.view name → record r { store = store; view = view } ≡ forgotten name now
forget_is r now name store view same store_is view_is = (λ i. record r { store = store_is i; view = view_is i }) ∙ ap (forgotten name) same

pub kept_forget_store : (r : Replica) (name : ℕ) (store : Store) (view : View) → IsReplica r → (name == r.own) ≡ false →
    store ≡ part (is_other name) r.store → view ≡ fin.remove r.view name → IsReplica (record r { store = store; view = view })
kept_forget_store r name store view h other store_is view_is =
    subst IsReplica (sym (forget_is r r name store view refl store_is view_is)) (kept_forgotten r name h other)
