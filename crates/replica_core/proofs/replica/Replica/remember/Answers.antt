use Rattle.std.proofs.Common.{ap, subst, sym, rules}
use Rattle.payload_core.specs.EntryLists.{pairs}
use Rattle.store_core.specs.EntryMoves.{AreNew}
use Rattle.replica_core.specs.Changes.{with_remembered}
use Rattle.replica_core.specs.Invariant.{IsReplica}
use Rattle.replica_core.specs.Replicas.{Replica}
use Rattle.replica_core.proofs.StoreParts.{are_stores}
use Rattle.replica_core.proofs.Sizes.{store_fits}
use Rattle.replica_core.proofs.replica.Replica.remember.Goals as goal

pub put-requires : goal.put-requires
put-requires g c = search rules

pub remember-requires : goal.remember-requires
remember-requires g c = (
  store_fits g.row.A g.A.Allocator (search tt),
  record {
    number = c.requires.name;
    new = subst (λ (r : Replica). AreNew (pairs c.args.forgotten.value.entries) r.store.entries) (sym c.self.view_is) c.requires.new;
    earlier = are_stores _ (subst (λ (r : Replica). IsReplica (with_remembered c.args.name c.args.forgotten.value r)) (sym c.self.view_is) c.requires.earlier);
  },
)

pub invariant_of-self : goal.invariant_of-self
invariant_of-self g c = rw c.in-Err.ensures.err c.self.invariant

pub returns-in-Err-clause-err : goal.returns-in-Err-clause-err
returns-in-Err-clause-err g c = rw c.in-Err.ensures.err c.self.view_is

pub returns-in-Err-clause-given_back : goal.returns-in-Err-clause-given_back
returns-in-Err-clause-given_back g c = c.in-Err.ensures.given_back

pub invariant_of-self-2 : goal.invariant_of-self-2
invariant_of-self-2 g c =
    rw (c.in_default.ensures.ok, c.put.ensures)
    (subst (λ (r : Replica). IsReplica (with_remembered c.args.name c.args.forgotten.value r)) (sym c.self.view_is) c.requires.earlier)

pub returns-clause-ok : goal.returns-clause-ok
returns-clause-ok g c = rw (c.in_default.ensures.ok, c.put.ensures) (ap (with_remembered c.args.name c.args.forgotten.value) c.self.view_is)
