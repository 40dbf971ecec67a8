use Rattle.std.proofs.Common.{◌==◌, option_map, sym, ap, ◌∙◌, subst}
use Rattle.std.proofs.lemmas.Bool.{ne_eqb}
use Rattle.node_core.specs.Nodes.{Node}
use Rattle.node_core.specs.Operations.{Answer}
use Rattle.node_core.specs.Inverses.{Takes}
use Rattle.node_core.proofs.Sends.{answered}
use Rattle.node_core.proofs.node.Node.answer.Goals as goal

pub returns : goal.returns
returns g c =
    let apart = ne_eqb c.args.sender c.self.inside.replica.own (λ e. c.if-sender-own.false (e ∙ sym c.own.ensures)) in
    let other = ap (λ (n : Node). c.args.sender == n.replica.own) (sym c.self.view_is) ∙ apart in
    let asks = sym c.asked.ensures.asked ∙ c.in-Some-asked.is in
    let named = ap (λ o. option_map (λ m. m.now) o) c.in-Some.is in
    subst (λ m. Takes c.args.self.now (Answer c.args.sender c.args.number) m c.extract.result c.extract.new.self) (sym named)
    (answered c.args.self.now c.args.sender c.args.number c.in-Some.message.now c.in-Some-asked.names other asks c.extract.result
    c.extract.new.self c.extract.ensures)
