use Rattle.store_core.proofs.KeptStores.{kept_empty}
use Rattle.store_core.proofs.delta_store.DeltaStore.new.Goals as goal

pub invariant_of-result : goal.invariant_of-result
invariant_of-result g c = rw (c.new.ensures, c.indexed.ensures, c.new-2.ensures, c.new-3.ensures) (kept_empty c.args.own c.requires)
