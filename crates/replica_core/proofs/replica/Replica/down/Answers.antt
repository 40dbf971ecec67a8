use Rattle.std.proofs.Common.{subst, sym, ap, ◌∙◌}
use Rattle.std.specs.FinMap as fin
use Rattle.replica_core.specs.declared.status.Status.TheVariants.{Down}
use Rattle.replica_core.specs.Replicas.{Replica}
use Rattle.replica_core.specs.Invariant.{IsReplica}
use Rattle.replica_core.proofs.Calls.{down_known, down_other, status_is}
use Rattle.replica_core.proofs.Invariant.{kept_status}
use Rattle.replica_core.proofs.replica.Replica.down.Goals as goal

pub invariant_of-self : goal.invariant_of-self
invariant_of-self g c =
    let other = down_other _ c.args.self.now c.args.name c.down_refusal.result c.self.view_is c.down_refusal.ensures c.in_default.is in
    rw c.lower.ensures (kept_status _ c.args.name Down c.self.invariant other)

pub lower-requires-clause-known : goal.lower-requires-clause-known
lower-requires-clause-known g c =
    down_known _ c.args.self.now c.args.name c.down_refusal.result c.self.view_is c.down_refusal.ensures c.in_default.is

pub returns-clause-leads_back : goal.returns-clause-leads_back
returns-clause-leads_back g c = record {
  call = record {
    number = c.requires;
    accepted = sym c.down_refusal.ensures ∙ c.in_default.is;
    stood = c.status-before.ensures ∙ ap (λ (r : Replica). fin.get r.view c.args.name) c.self.view_is;
    gives = status_is _ c.args.self.now c.args.name Down c.lower.new.self c.self.view_is c.lower.ensures;
  };
  earlier = subst IsReplica c.self.view_is c.self.invariant;
}

-- its own requirement is that of the call
pub down_refusal-requires : goal.down_refusal-requires
down_refusal-requires g c = search tt
