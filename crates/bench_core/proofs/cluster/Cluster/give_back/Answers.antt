use Rattle.std.proofs.Common.{set, subst, sym, OnOk, arith}
use Rattle.node_core.specs.Inverses.{plain_inverse}
use Rattle.bench_core.specs.Clusters.{Cluster}
use Rattle.bench_core.specs.Benches.{LeadsNodeBack, NodeGoesBack}
use Rattle.bench_core.proofs.Members.{back_gives, back_keeps, led_node}
use Rattle.bench_core.proofs.cluster.Cluster.give_back.Goals as goal

pub give_back-requires : goal.give_back-requires
give_back-requires g c =
    let led = led_node c.self.inside.nodes.items c.args.node (plain_inverse c.args.inverse) c.index_mut-place.result.now
    (subst (λ (m : Cluster). LeadsNodeBack m c.args.node (plain_inverse c.args.inverse)) (sym c.self.view_is) c.requires)
    c.index_mut-place.ensures.value in
    (omega arith, led.leads)

pub invariant_of-self : goal.invariant_of-self
invariant_of-self g c =
    let led = led_node c.self.inside.nodes.items c.args.node (plain_inverse c.args.inverse) c.index_mut-place.result.now
    (subst (λ (m : Cluster). LeadsNodeBack m c.args.node (plain_inverse c.args.inverse)) (sym c.self.view_is) c.requires)
    c.index_mut-place.ensures.value in
    back_keeps c.self.inside.nodes.items c.args.node (plain_inverse c.args.inverse) c.index_mut-place.result.now c.give_back.new.self led.leads.0
    c.give_back.result c.self.invariant led.at led.leads.1 c.give_back.ensures.ok c.give_back.ensures.err

pub returns-clause-ok : goal.returns-clause-ok
returns-clause-ok g c =
    let led = led_node c.self.inside.nodes.items c.args.node (plain_inverse c.args.inverse) c.index_mut-place.result.now
    (subst (λ (m : Cluster). LeadsNodeBack m c.args.node (plain_inverse c.args.inverse)) (sym c.self.view_is) c.requires)
    c.index_mut-place.ensures.value in
    subst (λ (m : Cluster). OnOk c.give_back.result (NodeGoesBack m c.args.node (plain_inverse c.args.inverse) (set c.self.inside.nodes.items c.args.node c.give_back.new.self)))
    c.self.view_is
    (back_gives c.self.inside.nodes.items c.args.node (plain_inverse c.args.inverse) c.index_mut-place.result.now c.give_back.new.self c.give_back.result led.at
    c.give_back.ensures.ok)
