use Rattle.std.proofs.Common.{rules, sym, ap, ◌∙◌}
use Rattle.replica_core.specs.declared.node_limits.NodeLimits.{NodeLimits}
use Rattle.replica_core.specs.Changes.{plain_change}
use Rattle.node_core.specs.Nodes.{Node}
use Rattle.node_core.proofs.Back.{change_leads, either_back, either_kept}
use Rattle.node_core.proofs.node.Node.undo.Goals as goal

pub undo-requires : goal.undo-requires
undo-requires g c =
    let before : Node = record { replica = c.self.inside.replica; outbox = c.self.inside.outbox.messages } in
    (search rules, change_leads before c.args.self.now c.self.view_is (plain_change c.args.change) c.requires)

pub invariant_of-self : goal.invariant_of-self
invariant_of-self g c =
    let before : Node = record { replica = c.self.inside.replica; outbox = c.self.inside.outbox.messages } in
    let kept = either_kept before c.args.self.now c.self.view_is c.undo.result (plain_change c.args.change) c.undo.new.self c.requires c.self.invariant.0
    c.undo.ensures.ok c.undo.ensures.err in
    (kept.0, c.self.invariant.1 ∙ ap (λ (l : NodeLimits). l.messages) (sym kept.1))

pub returns-clause-ok : goal.returns-clause-ok
returns-clause-ok g c =
    let before : Node = record { replica = c.self.inside.replica; outbox = c.self.inside.outbox.messages } in
    either_back before c.args.self.now c.self.view_is c.undo.result (plain_change c.args.change) c.undo.new.self c.undo.ensures.ok
