use Rattle.std.proofs.Common.{subst, sym}
use Rattle.store_core.specs.DeltaStores.{CanBeDelta}
use Rattle.store_core.proofs.KeptStores.{kept_with_delta}
use Rattle.store_core.proofs.delta_store.DeltaStore.give_delta.Goals as goal

pub invariant_of-self : goal.invariant_of-self
invariant_of-self g c =
    rw (c.into_parts-sender.ensures.seen, c.into_parts-sender.ensures.entries)
    (kept_with_delta c.args.payload _ c.self.invariant c.into_parts-sender.ensures.are_seen
    (subst (CanBeDelta c.args.payload) (sym c.self.view_is) c.requires))
