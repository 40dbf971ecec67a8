-- What an undo asks of a replica's stores.
use Rattle.std.proofs.Common.{List, subst, sym}
use Rattle.store_core.specs.Delivered.{Delivered}
use Rattle.store_core.specs.DeltaStores.{CanAllBeRestored, CanBeRestored, CanBeUndelivered, CanBeUnjoined, IsDeltaStore}
use Rattle.store_core.specs.LeftEntries.{Left}
use Rattle.replica_core.specs.Changes.{ChangeLeadsBack, OfDeliver, OfJoin, Restorable}
use Rattle.replica_core.specs.ProcessLeaves.{AllRestorable}
use Rattle.replica_core.specs.Replicas.{Replica}
use Rattle.replica_core.proofs.Back.{back_holds, some_after_join}
use Rattle.replica_core.proofs.Destroyed.{undelivered_new}
use Rattle.replica_core.proofs.StoreParts.{are_stores, stores_of}

module _ (b a : Replica) where
  pub can_unjoin : ChangeLeadsBack OfJoin b a → CanBeUnjoined (stores_of b)
  can_unjoin h = record {
    some = some_after_join b a h;
    earlier = subst (λ r. IsDeltaStore (stores_of r)) (sym (back_holds OfJoin b a h)) (are_stores a h.earlier);
  }

  pub can_restore : (l : Left) → Restorable l b a → CanBeRestored l (stores_of b)
  can_restore l h = record {
    some = h.some;
    valid = h.valid;
    place = h.place;
    earlier = subst (λ r. IsDeltaStore (stores_of r)) (sym h.back) (are_stores a h.earlier);
  }

  pub can_restore_all : (ls : List Left) → AllRestorable ls b a → CanAllBeRestored ls (stores_of b)
  can_restore_all ls h = record {
    some = h.some;
    valid = h.valid;
    new = h.new;
    new_in_delta = h.new_in_delta;
    earlier = subst (λ r. IsDeltaStore (stores_of r)) (sym h.back) (are_stores a h.earlier);
  }

  pub can_undeliver : (d : Delivered) → ChangeLeadsBack (OfDeliver d) b a → CanBeUndelivered d (stores_of b)
  can_undeliver d h = record {
    new = undelivered_new d a b h.earlier h.call;
    earlier = subst (λ r. IsDeltaStore (stores_of r)) (sym (back_holds (OfDeliver d) b a h)) (are_stores a h.earlier);
  }
