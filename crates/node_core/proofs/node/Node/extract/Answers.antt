use Rattle.std.proofs.Common.{rules, None, Ok, [], ◌∷◌, ◌++◌, ◌≡◌}
use Rattle.node_core.specs.Operations.{Extract}
use Rattle.node_core.specs.Inverses.{OfSent}
use Rattle.node_core.specs.Nodes.{Node, take}
use Rattle.node_core.proofs.Sends.{sent, extract_kept}
use Rattle.node_core.proofs.node.Node.extract.Goals as goal

pub invariant_of-self-2 : goal.invariant_of-self-2
invariant_of-self-2 g c =
    let before : Node = record { replica = c.self.inside.replica; outbox = c.self.inside.outbox.messages } in
    let now : Node = record { replica = c.self.inside.replica; outbox = c.push.new.self.messages } in
    let taken : take before (Extract c.args.names) None ≡ Ok now = search rules in
    (extract_kept before now c.args.names c.self.invariant.0 taken, search rules)

pub returns : goal.returns
returns g c =
    let before : Node = record { replica = c.self.inside.replica; outbox = c.self.inside.outbox.messages } in
    let now : Node = record { replica = c.self.inside.replica; outbox = c.push.new.self.messages } in
    let taken : take before (Extract c.args.names) None ≡ Ok now = search rules in
    let posted : c.push.new.self.messages ≡ c.self.inside.outbox.messages ++ c.in_ok-payload.payload ∷ [] = search rules in
    sent before c.args.self.now (Extract c.args.names) None now OfSent c.self.view_is c.self.invariant.0 taken
    (c.in_ok-payload.payload, λ i. record { replica = c.self.inside.replica; outbox = posted i })
