use Rattle.std.proofs.Common.{◌∙◌, ap, subst, sym}
use Rattle.explore_network.specs.Asked.{AreAsked}
use Rattle.explore_network.specs.Questions.{plain}
use Rattle.explore_network.specs.Turns.{ranks_of}
use Rattle.network_rules.specs.Tables.{AreAllAsked, IsClosed}
use Rattle.explore_network.proofs.exploring.parts_of.Goals as goal

pub returns-clause-ranks : goal.returns-clause-ranks
returns-clause-ranks g c = c.in_ok-ranks.ensures ∙ ap (λ ts. ranks_of ts c.args.steps.now) c.as_slice.ensures.value

pub returns-clause-closed : goal.returns-clause-closed
returns-clause-closed g c = subst (λ l. IsClosed c.args.steps.now l c.in_ok-cone.cone) c.as_slice-3.ensures.value c.in_ok-cone.ensures.closed

pub returns-clause-asked : goal.returns-clause-asked
returns-clause-asked g c =
    subst (λ o. AreAllAsked c.in_ok-turns.turns.items c.args.count o c.in_ok-cone.cone) c.node.ensures
    (subst (λ ts. AreAllAsked ts c.args.count c.node.result c.in_ok-cone.cone) c.as_slice-2.ensures.value c.in_ok-cone.ensures.asked)

pub returns-clause-dots : goal.returns-clause-dots
returns-clause-dots g c = subst (AreAsked c.args.limits c.args.count c.args.steps.now (plain c.args.question.now)) (sym c.in_ok-cone.ensures.dots) c.in_ok-dots.ensures
