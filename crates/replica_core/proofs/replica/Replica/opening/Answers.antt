use Rattle.replica_core.proofs.Sizes.{store_fits}
use Rattle.replica_core.proofs.Invariant.{kept_opening}
use Rattle.replica_core.proofs.replica.Replica.opening.Goals as goal

pub invariant_of-result : goal.invariant_of-result
invariant_of-result g c = rw (c.new.ensures, c.opening.ensures) (kept_opening c.args.own c.args.limits c.requires.name c.requires.limits)

pub opening-requires : goal.opening-requires
opening-requires g c = c.requires.name

pub new-requires : goal.new-requires
new-requires g c = (store_fits g.row.A g.A.Allocator (search tt), c.requires.name)
