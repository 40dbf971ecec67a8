-- The laws of deliveries, from those of stores.
use Rattle.std.proofs.Common.{[], ◌∷◌, ap, ◌∙◌}
use Rattle.std.specs.FinMap as fin
use Rattle.store_core.specs.Stores.{Store, store_of}
use Rattle.store_core.proofs.StoreMerges as stores
use Rattle.replica_core.specs.declared.replica_fault.ReplicaFault.TheVariants.{EntriesFull}
use Rattle.replica_core.specs.Deliveries.{is_other_known}
use Rattle.replica_core.specs.Refusals.{first_of, are_too_many}
use Rattle.replica_core.specs.Laws.{AgainLaw, OrderLaw, StandingLaw}

pub again_holds : AgainLaw
again_holds = record {
  accepted = λ m r free. ap (λ (s : Store). first_of ((are_too_many r (fin.len s.entries), EntriesFull) ∷ []))
      (stores.again_holds (is_other_known r) (store_of m) r.store) ∙ free;
  same = λ m r. λ i. record r { store = stores.again_holds (is_other_known r) (store_of m) r.store i };
}

pub order_holds : OrderLaw
order_holds m n r lr lm ln agree =
    λ i. record r { store = stores.order_holds (is_other_known r) (store_of m) (store_of n) r.store lr lm ln agree i }

pub standing_holds : StandingLaw
standing_holds m r = stores.standing_holds (is_other_known r) (store_of m) r.store
