use Rattle.node_core.specs.Inverses.{plain_inverse}
use Rattle.node_core.specs.Operations.{plain}
use Rattle.bench_core.proofs.Members.{leads_cluster_back}
use Rattle.bench_core.proofs.cluster.Cluster.step.Goals as goal

pub returns-clause-leads_back : goal.returns-clause-leads_back
returns-clause-leads_back g c =
    leads_cluster_back c.args.self.now c.take.new.self c.args.node (plain c.args.step.now) (plain_inverse c.in_ok-take.field-0) c.in_ok-take.ensures.steps
