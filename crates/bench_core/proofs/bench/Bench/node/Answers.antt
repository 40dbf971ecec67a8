use Rattle.std.proofs.Common.{◌≡◌, Ok, subst}
use Rattle.bench_core.specs.Machine.{Machine, config_of, now}
use Rattle.bench_core.proofs.bench.Bench.node.Goals as goal

pub returns-clause-value : goal.returns-clause-value
returns-clause-value g c = (
  c.self.inside.cluster,
  subst (λ (m : Machine). now (config_of m) m.state ≡ Ok c.self.inside.cluster) c.self.view_is c.self.invariant.0.is_now,
  c.node.ensures,
)
