use Rattle.std.proofs.Common.{IfOk, sym, subst}
use Rattle.explore_network.specs.Asked.{AreAsked}
use Rattle.explore_network.specs.Questions.{plain, OfCluster, OfNode, OfPresence}
use Rattle.explore_network.proofs.Calls.{if_both, if_ok}
use Rattle.explore_network.proofs.OwnDots.{asked_of_cluster, asked_of_node}
use Rattle.explore_network.proofs.asked.dots_of.Goals as goal

pub returns-in-Cluster : goal.returns-in-Cluster
returns-in-Cluster g c =
    let l = c.args.limits in
    let steps = c.args.steps.now in
    subst (λ q. IfOk c.dots_of_nodes.result (λ dots. AreAsked l c.args.count steps (plain q) dots.items)) (sym c.in-Cluster.is)
    (if_both c.dots_of_nodes.result _ _ (λ dots. AreAsked l c.args.count steps OfCluster dots.items) (λ dots names own. asked_of_cluster l c.args.count steps dots.items names own)
    c.dots_of_nodes.ensures.names c.dots_of_nodes.ensures.own)

pub returns-in-Node : goal.returns-in-Node
returns-in-Node g c =
    let l = c.args.limits in
    let steps = c.args.steps.now in
    subst (λ q. IfOk c.dots_of_nodes-in-Node.result (λ dots. AreAsked l c.args.count steps (plain q) dots.items)) (sym c.in-Node.is)
    (if_both c.dots_of_nodes-in-Node.result _ _ (λ dots. AreAsked l c.args.count steps (OfNode c.in-Node.field-0) dots.items) (λ dots names own. asked_of_node l c.args.count steps dots.items names own c.in-Node.field-0)
    c.dots_of_nodes-in-Node.ensures.names c.dots_of_nodes-in-Node.ensures.own)

pub returns-in-Presence : goal.returns-in-Presence
returns-in-Presence g c =
    let l = c.args.limits in
    let steps = c.args.steps.now in
    subst (λ q. IfOk c.dots_of_presences.result (λ dots. AreAsked l c.args.count steps (plain q) dots.items)) (sym c.in-Presence.is)
    (if_ok c.dots_of_presences.result _ (λ dots. AreAsked l c.args.count steps (OfPresence c.in-Presence.node c.in-Presence.topic c.in-Presence.key) dots.items) (λ dots all. all c.in-Presence.node)
    c.dots_of_presences.ensures)
