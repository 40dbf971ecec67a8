-- The inverses that a bench keeps lead back along the undos of their steps.
use Rattle.std.proofs.Common.{◌≡◌, ℕ, List, [], ◌∷◌, ◌==◌, set, slice_get, Option, Some, None, IfSome, is_some, option_map, length, Result, Ok, sym, ap, ◌∙◌, subst, Bool, true, false, if◌then◌else◌, refl}
use Rattle.node_core.specs.Inverses.{Inverse, LeadsBack}
use Rattle.journal_core.specs.Journals.{Kept, find_number}
use Rattle.journal_core.specs.Holdings.{Held, kepts, find_held, inverse_of, AreAllHeld}
use Rattle.journal_core.proofs.Rising.{find_kepts}
use Rattle.bench_core.specs.declared.fault.Fault.{Fault}
use Rattle.bench_core.specs.NameList.{Texts}
use Rattle.bench_core.specs.Limits.{Limits, node_limits}
use Rattle.bench_core.specs.Clusters.{Cluster, opening_of}
use Rattle.bench_core.specs.Machine.{Event, Machine}
use Rattle.bench_core.specs.Benches.{IsBench}
use Rattle.bench_core.specs.WaysBack.{IsWayBack}
use Rattle.bench_core.proofs.Chain.{all_held, undoing}
use Rattle.bench_core.proofs.Reached.{kept_reached}
use Rattle.bench_core.proofs.Invariant.{config, machine, find_kept}

-- a step that remains has its inverse
held_at : (hs : List Held) (n : ℕ) (h : Held) → AreAllHeld hs → find_held hs n ≡ Some h → (i : Inverse) × (h.inverse ≡ Some i)
held_at [] n h all found = absurd (cc)
held_at (x ∷ hs) n h all found = go (x.kept.number == n) found (held_at hs n h all.1)
  where
    go : (b : Bool) → (if b then Some x else find_held hs n) ≡ Some h → (find_held hs n ≡ Some h → (i : Inverse) × (h.inverse ≡ Some i)) →
        (i : Inverse) × (h.inverse ≡ Some i)
    go true is more = let one : x ≡ h = cc in subst (λ (h : Held). (i : Inverse) × (h.inverse ≡ Some i)) one all.0
    go false is more = more is

-- what is lent is told by its plain value
pub if_some : {T : Type 0} (f : T → Inverse) (P : Inverse → Type 0) (o : Option T) (w : Option Inverse) → option_map f o ≡ w →
    ((i : Inverse) → w ≡ Some i → P i) → IfSome o (λ x. P (f x))
if_some f P None w is all = tt
if_some f P (Some x) w is all = all (f x) (sym is)

pub same_some : {T : Type 0} (f : T → Inverse) (o : Option T) → is_some o ≡ is_some (option_map f o)
same_some f None = refl
same_some f (Some x) = refl

module _ (names : Texts) (limits : Limits) (h : List Event) (nodes : Cluster) (hs : List Held) (taken n : ℕ) (m : Machine)
    (at : machine names limits h (kepts hs) ≡ m)
    (old : IsBench (config names limits) (record { history = h; remaining = kepts hs }) nodes hs taken) where
  here : (i : Inverse) → inverse_of (find_held hs n) ≡ Some i → IsWayBack (machine names limits h (kepts hs)) n i
  here i kept step found free =
      let f = find_kept hs n step found in
      let k = kept_reached (config names limits) (record { history = h; remaining = kepts hs }) old.reached in
      let u = undoing (node_limits limits) (length names) n hs f.0 nodes k.rises old.is_now f.1 free old.chain in
      let of : f.0.kept.node ≡ step.node = ap (λ (k : Kept). k.node) f.2 in
      let both : Some u.inverse ≡ Some i = sym u.kept ∙ sym (ap inverse_of f.1) ∙ kept in
      let same : u.inverse ≡ i = cc in
      record {
        cluster = nodes;
        is_now = old.is_now;
        earlier = u.earlier;
        later = u.later;
        at = subst (λ m. slice_get nodes m ≡ Some u.later) of u.at;
        leads = subst (λ i. LeadsBack i u.later u.earlier) same u.leads;
        left_out = u.run ∙ ap (λ m. Ok (set nodes m u.earlier)) of;
      }

  -- an inverse that the journal finds
  pub way_back : (i : Inverse) → inverse_of (find_held hs n) ≡ Some i → IsWayBack m n i
  way_back i kept = subst (λ (m : Machine). IsWayBack m n i) at (here i kept)

  -- there is one for each step that remains, and for no other
  pub one_each : is_some (inverse_of (find_held hs n)) ≡ is_some (find_number m.state.remaining n)
  one_each =
      subst (λ (m : Machine). is_some (inverse_of (find_held hs n)) ≡ is_some (find_number m.state.remaining n)) at
      (go (find_held hs n) refl ∙ ap is_some (sym (find_kepts hs n)))
    where
      go : (o : Option Held) → find_held hs n ≡ o → is_some (inverse_of o) ≡ is_some (option_map (λ (h : Held). h.kept) (find_held hs n))
      go None is = ap (λ o. is_some (option_map (λ (h : Held). h.kept) o)) (sym is)
      go (Some x) is =
          let start : Result Cluster Fault = Ok (opening_of (node_limits limits) (length names)) in
          let held = held_at hs n x (all_held start hs nodes old.chain old.is_now) is in
          ap is_some held.1 ∙ ap (λ o. is_some (option_map (λ (h : Held). h.kept) o)) (sym is)
