use Rattle.std.proofs.lemmas.Bool.{ne_eqb, eq-eqb}
use Rattle.std.proofs.Common.{false, true, refl, ap, ◌∙◌, sym, arith}
use Rattle.replica_core.specs.Replicas.{Replica}
use Rattle.replica_core.proofs.Calls.{down_is}
use Rattle.replica_core.proofs.replica.Replica.down_refusal.Goals as goal

pub known-requires : goal.known-requires
known-requires g c = omega arith

pub has-requires : goal.has-requires
has-requires g c = omega arith

pub returns-then-name-own : goal.returns-then-name-own
returns-then-name-own g c =
    down_is c.args.self.now c.args.self.now c.args.name true _ refl (eq-eqb c.args.name c.args.self.now.own (c.if-name-own.true ∙ c.own.ensures)) refl

pub returns-then-not-has : goal.returns-then-not-has
returns-then-not-has g c =
    down_is _ c.args.self.now c.args.name false false c.self.view_is (ne_eqb c.args.name c.self.inside.stores.own (λ e. c.if-name-own.false (e ∙ ap (λ (r : Replica). r.own) c.self.view_is ∙ sym c.own.ensures)))
    (sym (c.known.ensures.known c.args.name) ∙ sym c.has.ensures ∙ c.if-not-has.true)

pub returns : goal.returns
returns g c =
    down_is _ c.args.self.now c.args.name false true c.self.view_is (ne_eqb c.args.name c.self.inside.stores.own (λ e. c.if-name-own.false (e ∙ ap (λ (r : Replica). r.own) c.self.view_is ∙ sym c.own.ensures)))
    (sym (c.known.ensures.known c.args.name) ∙ sym c.has.ensures ∙ c.if-not-has.false)

pub own-requires : goal.own-requires
own-requires g c = search tt
