use Rattle.std.proofs.Common.{refl, None}
use Rattle.node_core.specs.Operations.{Down}
use Rattle.replica_core.specs.Changes.{plain_change}
use Rattle.node_core.specs.Nodes.{Node}
use Rattle.node_core.proofs.Changes.{changed, changed_kept}
use Rattle.node_core.proofs.node.Node.down.Goals as goal

pub invariant_of-self-2 : goal.invariant_of-self-2
invariant_of-self-2 g c =
    let before : Node = record { replica = c.self.inside.replica; outbox = c.self.inside.outbox.messages } in
    changed_kept before c.down.new.self (plain_change c.in_ok-change.change) c.self.inside.outbox.limit c.self.invariant.0 c.self.invariant.1
    c.in_ok-change.ensures.leads_back c.replica_law.ensures

pub returns : goal.returns
returns g c =
    let before : Node = record { replica = c.self.inside.replica; outbox = c.self.inside.outbox.messages } in
    changed before c.args.self.now (Down c.args.name) None _ _ c.down.new.self c.self.invariant.0 refl c.in_ok-change.ensures.refused
    c.in_ok-change.ensures.down (plain_change c.in_ok-change.change) c.self.view_is c.in_ok-change.ensures.leads_back
