use Rattle.std.proofs.Common.{rules, ◌++◌, ap, sym, ◌∙◌}
use Rattle.std.specs.Option.{option_to_list}
use Rattle.replica_core.specs.Replicas.{Replica}
use Rattle.node_core.specs.Nodes.{Node}
use Rattle.node_core.specs.Inverses.{OfBroadcast}
use Rattle.node_core.proofs.Back.{broadcast_leads, broadcast_back, back_kept}
use Rattle.node_core.proofs.node.Node.take_back_delta.Goals as goal

pub give_delta-requires : goal.give_delta-requires
give_delta-requires g c =
    let before : Node = record { replica = c.self.inside.replica; outbox = c.self.inside.outbox.messages } in (
      search rules,
      (
        search rules,
        broadcast_leads before c.args.self.now c.self.view_is c.pop.new.self.messages c.unwrap-payload.result
            (c.pop.ensures.messages ∙ ap (λ o. c.pop.new.self.messages ++ option_to_list o) c.unwrap-payload.ensures) c.requires,
      ),
    )

pub invariant_of-self : goal.invariant_of-self
invariant_of-self g c =
    let before : Node = record { replica = c.self.inside.replica; outbox = c.self.inside.outbox.messages } in
    let now : Node = record { replica = c.give_delta.new.self; outbox = c.pop.new.self.messages } in (
      back_kept OfBroadcast c.args.self.now now c.requires
          (broadcast_back before c.args.self.now c.self.view_is c.pop.new.self.messages c.unwrap-payload.result
          (c.pop.ensures.messages ∙ ap (λ o. c.pop.new.self.messages ++ option_to_list o) c.unwrap-payload.ensures) c.give_delta.new.self
          c.give_delta.ensures),
      c.pop.ensures.limit ∙ c.self.invariant.1 ∙ ap (λ (r : Replica). r.limits.messages) (sym c.give_delta.ensures),
    )
