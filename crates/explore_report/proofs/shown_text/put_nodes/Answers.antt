use Rattle.std.proofs.Common.{sym, append-nil}
use Rattle.explore_report.specs.Texts.{nodes_text}
use Rattle.explore_report.proofs.Told.{node_more}
use Rattle.explore_report.proofs.shown_text.put_nodes.Goals as goal

pub loop-node-init : goal.loop-node-init
unfolding nodes_text
loop-node-init g c = sym (append-nil _)

pub loop-node-preserved : goal.loop-node-preserved
loop-node-preserved g c = node_more c.args.names.now c.args.cluster.now c.loop-node.node _ _ _ c.loop-node.invariant c.in_ok-put_node.ensures
