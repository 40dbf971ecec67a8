use Rattle.std.proofs.Common.{◌≡◌, ◌∙◌, Some, ap, sym, refl}
use Rattle.replica_core.specs.Replicas.{is_known, Replica}
use Rattle.node_core.specs.Nodes.{Node}
use Rattle.network_rules.specs.Easy.{IsKnownUp}
use Rattle.network_rules.proofs.first.knows.Goals as goal

pub returns-in-Some : goal.returns-in-Some
returns-in-Some g c = λ h. IsKnownUp c.args.name refl (λ x is.
    let both : Some c.in-Some.node.now ≡ Some x = c.in-Some.ensures ∙ is in
    let same : c.in-Some.node.now ≡ x = cc in
    ap (λ (r : Replica). is_known r c.args.name) (ap (λ (n : Node). n.replica) (sym same) ∙ sym c.replica.ensures) ∙ sym (c.known.ensures.known c.args.name) ∙ sym c.has.ensures ∙ h)
