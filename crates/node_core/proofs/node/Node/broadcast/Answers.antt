use Rattle.std.proofs.Common.{rules, None, Ok, ◌≡◌}
use Rattle.node_core.specs.Operations.{Broadcast}
use Rattle.replica_core.specs.Replicas.{delta_message, without_delta}
use Rattle.node_core.specs.Nodes.{Node, take, with_sent}
use Rattle.node_core.specs.Inverses.{OfBroadcast}
use Rattle.node_core.proofs.Sends.{sent, broadcast_kept}
use Rattle.node_core.proofs.node.Node.broadcast.Goals as goal

pub invariant_of-self-2 : goal.invariant_of-self-2
invariant_of-self-2 g c =
    let before : Node = record { replica = c.self.inside.replica; outbox = c.self.inside.outbox.messages } in
    let now : Node = record { replica = c.take_delta.new.self; outbox = c.push.new.self.messages } in
    let taken : take before Broadcast None ≡ Ok now = search rules in
    (broadcast_kept before now c.self.invariant.0 taken, search rules)

pub returns : goal.returns
returns g c =
    let before : Node = record { replica = c.self.inside.replica; outbox = c.self.inside.outbox.messages } in
    let now : Node = record { replica = c.take_delta.new.self; outbox = c.push.new.self.messages } in
    let taken : take before Broadcast None ≡ Ok now = search rules in
    let names : now ≡ with_sent before (delta_message before.replica) (without_delta before.replica) = search rules in
    sent before c.args.self.now Broadcast None now OfBroadcast c.self.view_is c.self.invariant.0 taken names
