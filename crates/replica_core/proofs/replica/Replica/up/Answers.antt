use Rattle.std.proofs.Common.{refl, subst, sym, ap, ◌∙◌}
use Rattle.std.proofs.lemmas.Bool.{ne_eqb}
use Rattle.std.specs.FinMap as fin
use Rattle.replica_core.specs.declared.status.Status.TheVariants.{Up}
use Rattle.replica_core.specs.Replicas.{Replica}
use Rattle.replica_core.specs.Invariant.{IsReplica}
use Rattle.replica_core.proofs.Calls.{status_is, up_free, up_own}
use Rattle.replica_core.proofs.Invariant.{kept_status}
use Rattle.replica_core.proofs.replica.Replica.up.Goals as goal

pub invariant_of-self : goal.invariant_of-self
invariant_of-self g c = rw c.raise.ensures (kept_status _ c.args.name Up c.self.invariant (ne_eqb c.args.name c.self.inside.stores.own (λ e. c.if-name-own.false (e ∙ ap (λ (r : Replica). r.own) c.self.view_is ∙ sym c.own.ensures))))

pub returns-clause-refused : goal.returns-clause-refused
returns-clause-refused g c = up_free c.args.self.now c.args.self.now c.args.name refl (λ e. c.if-name-own.false (e ∙ sym c.own.ensures))

pub returns-clause-leads_back : goal.returns-clause-leads_back
returns-clause-leads_back g c = record {
  call = record {
    number = c.requires;
    accepted = up_free c.args.self.now c.args.self.now c.args.name refl (λ e. c.if-name-own.false (e ∙ sym c.own.ensures));
    stood = c.status-before.ensures ∙ ap (λ (r : Replica). fin.get r.view c.args.name) c.self.view_is;
    gives = status_is _ c.args.self.now c.args.name Up c.raise.new.self c.self.view_is c.raise.ensures;
  };
  earlier = subst IsReplica c.self.view_is c.self.invariant;
}

pub returns-then-name-own-clause-refused : goal.returns-then-name-own-clause-refused
returns-then-name-own-clause-refused g c = λ _. up_own c.args.self.now c.args.self.now c.args.name refl (c.if-name-own.true ∙ c.own.ensures)

pub own-requires : goal.own-requires
own-requires g c = search tt
