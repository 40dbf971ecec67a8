use Rattle.std.proofs.Common.{◌∙◌, ◌++◌, ap, add-one, sym, length}
use Rattle.network_rules.specs.Queries.{node_queries, queries_at_nodes}
use Rattle.network_rules.specs.Tables.{matter}
use Rattle.network_rules.proofs.KeyLoops.{asked_more, asked_none}
use Rattle.network_rules.proofs.key.put_nodes.Goals as goal

pub loop-node-init : goal.loop-node-init
unfolding queries_at_nodes
loop-node-init g c = asked_none c.args.state.now.cluster.now c.args.key.now.items

pub loop-node-preserved : goal.loop-node-preserved
unfolding queries_at_nodes
loop-node-preserved g c =
    let t = c.args.cone.now in
    let n = c.loop-node.node in
    asked_more c.args.state.now.cluster.now c.args.key.now.items c.loop-node.key.items c.put_node.new.key.items (queries_at_nodes t c.args.state.now.counts.now n) _ _
    c.loop-node.invariant c.in_ok-put_node.ensures
    (ap (queries_at_nodes t c.args.state.now.counts.now) (add-one n) ∙ (λ i. queries_at_nodes t c.args.state.now.counts.now n ++ node_queries (sym c.dots.ensures i) n (sym (c.matter-names.ensures ∙ ap (matter t n) c.count_at.ensures) i) (length (sym c.dots.ensures i))))
