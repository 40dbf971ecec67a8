use Rattle.std.proofs.Common.{rules, sym, subst}
use Rattle.node_core.specs.Inverses.{plain_inverse, LeadsSomewhere, GivesBack}
use Rattle.node_core.proofs.node.Node.give_back.Goals as goal

pub undo-requires : goal.undo-requires
undo-requires g c = (search rules, subst (λ i. LeadsSomewhere (plain_inverse i) c.args.self.now) c.in-Change.is c.requires)

pub take_back_delta-requires : goal.take_back_delta-requires
take_back_delta-requires g c = (search rules, subst (λ i. LeadsSomewhere (plain_inverse i) c.args.self.now) c.in-Broadcast.is c.requires)

pub take_back_message-requires : goal.take_back_message-requires
take_back_message-requires g c = (search rules, subst (λ i. LeadsSomewhere (plain_inverse i) c.args.self.now) c.in-Sent.is c.requires)

pub returns-in-Ok-clause-ok : goal.returns-in-Ok-clause-ok
returns-in-Ok-clause-ok g c =
    subst (λ i. GivesBack (plain_inverse i) c.args.self.now c.undo.new.self) (sym c.in-Change.is) c.in-Ok.ensures.ok

pub returns-in-Broadcast-clause-ok : goal.returns-in-Broadcast-clause-ok
returns-in-Broadcast-clause-ok g c =
    subst (λ i. GivesBack (plain_inverse i) c.args.self.now c.take_back_delta.new.self) (sym c.in-Broadcast.is) c.take_back_delta.ensures

pub returns-in-Sent-clause-ok : goal.returns-in-Sent-clause-ok
returns-in-Sent-clause-ok g c =
    subst (λ i. GivesBack (plain_inverse i) c.args.self.now c.take_back_message.new.self) (sym c.in-Sent.is) c.take_back_message.ensures
