use Rattle.node_core.specs.Operations.{plain}
use Rattle.bench_core.proofs.Members.{steps_keep}
use Rattle.bench_core.proofs.cluster.Cluster.take.Goals as goal

pub invariant_of-self : goal.invariant_of-self
invariant_of-self g c =
    steps_keep c.self.inside.nodes.items c.step_node.new.nodes.items c.args.node (plain c.args.step.now) c.step_node.result c.self.invariant
    c.step_node.ensures.steps
