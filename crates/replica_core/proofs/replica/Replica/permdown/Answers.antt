use Rattle.std.proofs.Common.{ap, refl, rules, sym, subst, ◌∙◌}
use Rattle.std.proofs.lemmas.Bool.{eqb-false}
use Rattle.store_core.specs.ForgottenNames.{Holds}
use Rattle.replica_core.specs.Replicas.{Replica}
use Rattle.replica_core.specs.Invariant.{IsReplica}
use Rattle.replica_core.proofs.StoreParts.{replica_of}
use Rattle.replica_core.proofs.Sizes.{store_fits}
use Rattle.replica_core.proofs.Calls.{refused_memory, permdown_other}
use Rattle.replica_core.proofs.Forgotten.{forget_is, kept_forget_store}
use Rattle.replica_core.proofs.replica.Replica.permdown.Goals as goal

pub invariant_of-self-2 : goal.invariant_of-self-2
invariant_of-self-2 g c =
    let other = permdown_other _ c.args.self.now c.args.name c.permdown_refusal.result c.self.view_is c.permdown_refusal.ensures c.in_default.is in
    let r = replica_of c.self.inside.limits c.self.inside.view c.self.inside.stores in
    rw c.in_ok-forgotten.ensures.forgotten (kept_forget_store r c.args.name _ c.forget-2.new.self c.self.invariant other refl c.forget-2.ensures)

pub returns-clause-forgotten : goal.returns-clause-forgotten
returns-clause-forgotten g c =
    let r = replica_of c.self.inside.limits c.self.inside.view c.self.inside.stores in
    ap (replica_of c.self.inside.limits c.forget-2.new.self) c.in_ok-forgotten.ensures.forgotten
    ∙ forget_is r c.args.self.now c.args.name _ c.forget-2.new.self c.self.view_is refl c.forget-2.ensures

pub returns-clause-leads_back : goal.returns-clause-leads_back
returns-clause-leads_back g c = record {
  call = record {
    number = c.requires;
    accepted = sym c.permdown_refusal.ensures ∙ c.in_default.is;
    holds = subst (λ (r : Replica). Holds c.args.name r.store c.in_ok-forgotten.forgotten.value) c.self.view_is c.in_ok-forgotten.ensures.held;
    gives = returns-clause-forgotten g c;
  };
  earlier = subst IsReplica c.self.view_is c.self.invariant;
}

-- its own requirement is that of the call
pub permdown_refusal-requires : goal.permdown_refusal-requires
permdown_refusal-requires g c = search tt

pub forget-requires-2 : goal.forget-requires-2
forget-requires-2 g c = search rules

pub forget-requires : goal.forget-requires
forget-requires g c =
    let other = permdown_other _ c.args.self.now c.args.name c.permdown_refusal.result c.self.view_is c.permdown_refusal.ensures c.in_default.is in
    (store_fits g.row.A g.A.Allocator (search tt), (c.requires, eqb-false c.args.name c.self.inside.stores.own other))

pub invariant_of-self : goal.invariant_of-self
invariant_of-self g c = rw c.in_err-forgotten.ensures.err c.self.invariant

pub returns-clause-refused : goal.returns-clause-refused
returns-clause-refused g c = sym c.permdown_refusal.ensures ∙ c.in_default.is

pub returns-in_err-forgotten-clause-refused : goal.returns-in_err-forgotten-clause-refused
returns-in_err-forgotten-clause-refused g c = refused_memory _ c.from_residual.result c.from_residual.ensures.1
