use Rattle.std.proofs.Common.{◌≡◌, ◌<◌, ◌∙◌, length, sym, subst}
use Rattle.bench_core.proofs.Tried.{met}
use Rattle.order_core.proofs.Stands.{all_begin, begins}
use Rattle.order_core.proofs.ordering.stands_of.Goals as goal

pub returns-clause-begins : goal.returns-clause-begins
returns-clause-begins g c = begins c.args.marks.now c.loop-node.stands.items c.loop-node.invariant.each

pub returns-clause-all_left : goal.returns-clause-all_left
returns-clause-all_left g c =
    let long : c.count_nodes-count.result ≡ length c.loop-node.stands.items =
    sym (met _ _ c.loop-node.auto.node-end c.loop-node-test.false) ∙ sym c.loop-node.invariant.count ∙ c.loop-node.stands.ok.0 in
    all_begin c.args.marks.now c.loop-node.stands.items c.loop-node.invariant.each
    (λ i m at. subst (λ n. m.node < n) long (c.count_nodes-count.ensures i m at))
