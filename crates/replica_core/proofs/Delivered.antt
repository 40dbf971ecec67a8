-- A delivery's calls, put together.
use Rattle.std.proofs.Common.{◌≡◌, ℕ, ◌≤◌, ◌==◌, ◌&&◌, not, Bool, true, false, [], ◌∷◌, None, refl, sym, ap, subst, subst₂, ◌∙◌}
use Rattle.std.proofs.Math.Bool.{and_comm}
use Rattle.std.proofs.lemmas.Bool.{ltb-false}
use Rattle.std.specs.FinMap as fin
use Rattle.std.specs.FinSet as set
use Rattle.dots_core.specs.Dots.{Dots, AreValid}
use Rattle.dots_core.specs.Names.{Names}
use Rattle.dots_core.proofs.Names.{contains-remove_name}
use Rattle.payload_core.specs.Messages.{Message, AreSeen}
use Rattle.store_core.specs.Delivered.{Delivered, Destroys}
use Rattle.store_core.specs.Stores as stores
use Rattle.store_core.specs.Stores.{Store, store_of}
use Rattle.replica_core.specs.declared.replica_fault.ReplicaFault.TheVariants.{EntriesFull}
use Rattle.replica_core.specs.Views.{AreKnown}
use Rattle.replica_core.specs.Replicas.{Replica}
use Rattle.replica_core.specs.Deliveries.{is_other_known, merged}
use Rattle.replica_core.specs.Delivered.{AreOtherKnown}
use Rattle.replica_core.specs.Refusals.{first_of, are_too_many, merge_refusal}
use Rattle.replica_core.specs.Invariant.{IsReplica}
use Rattle.replica_core.proofs.Invariant.{kept_merged}

-- the known names without the own one
pub without_own : (known names : Names) (r now : Replica) → r ≡ now → AreKnown r.view known → names ≡ set.remove known r.own → AreOtherKnown names now
without_own known names r now same are is = subst (AreOtherKnown names) same (λ n. ap (λ (s : Names). set.contains s n) is
    ∙ contains-remove_name known r.own n ∙ and_comm (not (n == r.own)) (set.contains known n) ∙ ap (λ b. b && not (n == r.own)) (are n))

-- what the store's calls say of these names, as the replica's definitions say it
module _ (m : Message) (r now : Replica) (names : Names) (same : r ≡ now) (are : AreOtherKnown names now) where
  pub store_after : stores.merged (set.contains names) (store_of m) r.store ≡ (merged m now).store
  store_after = λ i. stores.merged (λ n. are n i) (store_of m) (same i).store

  pub destroyed_is : (d : Delivered) → Destroys (set.contains names) (store_of m) r.store d → Destroys (is_other_known now) (store_of m) now.store d
  destroyed_is d = subst₂ (λ named s. Destroys named (store_of m) s d) (λ i n. are n i) (λ i. (same i).store)

  module _ (store : Store) (is : store ≡ stores.merged (set.contains names) (store_of m) r.store) where
    pub merged_is : record r { store = store } ≡ merged m now
    merged_is = λ i. record (same i) { store = (is ∙ store_after) i }

    pub kept_merge : (heard : Dots) → IsReplica r → heard ≡ m.seen → AreValid heard → AreSeen m.seen m.entries →
        merge_refusal now m ≡ None → IsReplica (record r { store = store })
    kept_merge heard h heard_is valid live free =
        subst IsReplica (sym merged_is)
        (kept_merged m now (subst IsReplica same h) (subst AreValid heard_is valid) live
        (fits (are_too_many now (fin.len (merged m now).store.entries)) refl free))
      where
        fits : (b : Bool) → are_too_many now (fin.len (merged m now).store.entries) ≡ b → first_of ((b, EntriesFull) ∷ []) ≡ None →
            fin.len (merged m now).store.entries ≤ now.limits.entries
        fits true is free = absurd (cc)
        fits false is free = ltb-false now.limits.entries (fin.len (merged m now).store.entries) is

-- whether a delivery is refused, as it was asked
pub merge_asked : (m : Message) (r : Replica) (asked b : Bool) (len : ℕ) → asked ≡ are_too_many r len → len ≡ fin.len (merged m r).store.entries →
    asked ≡ b → merge_refusal r m ≡ first_of ((b, EntriesFull) ∷ [])
merge_asked m r asked b len is len_is answer = ap (λ b. first_of ((b, EntriesFull) ∷ [])) (ap (are_too_many r) (sym len_is) ∙ sym is ∙ answer)
