use Rattle.std.proofs.Common.{◌∙◌, rules}
use Rattle.replica_core.proofs.StoreParts.{replica_of}
use Rattle.replica_core.proofs.Sizes.{store_fits}
use Rattle.replica_core.proofs.replica.Replica.try_copy.Goals as goal

pub try_copy-requires : goal.try_copy-requires
try_copy-requires g c = store_fits g.row.A g.A.Allocator (search tt)

pub copy-requires : goal.copy-requires
copy-requires g c = search rules

pub returns : goal.returns
returns g c = (λ i. replica_of c.self.inside.limits (c.copy.ensures i) (c.in_ok-try_copy.ensures i)) ∙ c.self.view_is

pub invariant_of-result : goal.invariant_of-result
invariant_of-result g c = rw (c.copy.ensures, c.in_ok-try_copy.ensures) c.self.invariant
