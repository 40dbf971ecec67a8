use Rattle.store_core.proofs.KeptStores.{kept_without_delta}
use Rattle.store_core.proofs.delta_store.DeltaStore.take_delta.Goals as goal

pub invariant_of-self : goal.invariant_of-self
invariant_of-self g c =
    rw (c.replace-seen.ensures.after, c.new.ensures, c.replace-entries.ensures.after, c.new-2.ensures) (kept_without_delta _ c.self.invariant)
