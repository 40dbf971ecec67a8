use Rattle.std.proofs.Common.{rules, None, Ok, [], ◌∷◌, ◌++◌, ◌≡◌}
use Rattle.node_core.specs.Operations.{Request}
use Rattle.node_core.specs.Inverses.{OfSent}
use Rattle.node_core.specs.Nodes.{Node, take}
use Rattle.node_core.proofs.Sends.{sent, request_kept}
use Rattle.node_core.proofs.node.Node.request.Goals as goal

pub invariant_of-self-2 : goal.invariant_of-self-2
invariant_of-self-2 g c =
    let before : Node = record { replica = c.self.inside.replica; outbox = c.self.inside.outbox.messages } in
    let now : Node = record { replica = c.self.inside.replica; outbox = c.push.new.self.messages } in
    let taken : take before Request None ≡ Ok now = search rules in
    (request_kept before now c.self.invariant.0 taken, search rules)

pub returns : goal.returns
returns g c =
    let before : Node = record { replica = c.self.inside.replica; outbox = c.self.inside.outbox.messages } in
    let now : Node = record { replica = c.self.inside.replica; outbox = c.push.new.self.messages } in
    let taken : take before Request None ≡ Ok now = search rules in
    let posted : c.push.new.self.messages ≡ c.self.inside.outbox.messages ++ c.request.result ∷ [] = search rules in
    sent before c.args.self.now Request None now OfSent c.self.view_is c.self.invariant.0 taken
    (c.request.result, λ i. record { replica = c.self.inside.replica; outbox = posted i })
