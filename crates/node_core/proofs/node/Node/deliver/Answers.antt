use Rattle.std.proofs.Common.{rules, ◌≡◌, None, Some, Ok, Err, if◌then◌else◌, option_map, sym, ap, ◌∙◌, subst}
use Rattle.std.proofs.lemmas.Bool.{ne_eqb}
use Rattle.node_core.specs.declared.step_fault.StepFault.TheVariants.{OwnMessage}
use Rattle.node_core.specs.Operations.{Deliver}
use Rattle.replica_core.specs.Changes.{plain_change}
use Rattle.node_core.specs.Nodes.{Node, with_replica, deliver, deliver_unasked, take}
use Rattle.node_core.specs.Inverses.{OfChange, LeadsBack}
use Rattle.node_core.proofs.Changes.{changed, changed_kept}
use Rattle.node_core.proofs.node.Node.deliver.Goals as goal

pub invariant_of-self-2 : goal.invariant_of-self-2
invariant_of-self-2 g c =
    let before : Node = record { replica = c.self.inside.replica; outbox = c.self.inside.outbox.messages } in
    changed_kept before c.merge.new.self (plain_change c.in_ok-change.change) c.self.inside.outbox.limit c.self.invariant.0 c.self.invariant.1
    c.in_ok-change.ensures.leads_back c.replica_law.ensures

pub returns : goal.returns
returns g c =
    let before : Node = record { replica = c.self.inside.replica; outbox = c.self.inside.outbox.messages } in
    let other = ne_eqb c.args.sender before.replica.own (λ e. c.if-sender-own.false (e ∙ sym c.own.ensures)) in
    let asks : c.in-Some.message.now.asked ≡ None = search rules in
    let named = ap (λ o. option_map (λ m. m.now) o) c.in-Some.is in
    subst (λ m. (take c.args.self.now (Deliver c.args.sender c.args.number) m ≡ Ok (with_replica before c.merge.new.self)) ×
    LeadsBack (OfChange (plain_change c.in_ok-change.change)) (with_replica before c.merge.new.self) c.args.self.now) (sym named)
    (changed before c.args.self.now (Deliver c.args.sender c.args.number) (Some c.in-Some.message.now) _ _ c.merge.new.self
    c.self.invariant.0
    (ap (λ own. if own then Err OwnMessage else deliver before (Some c.in-Some.message.now)) other
    ∙ ap (λ asked. deliver_unasked asked before c.in-Some.message.now) asks)
    c.in_ok-change.ensures.refused c.in_ok-change.ensures.merged (plain_change c.in_ok-change.change) c.self.view_is c.in_ok-change.ensures.leads_back)
