use Rattle.bench_core.proofs.Invariant.{is_machine}
use Rattle.bench_core.proofs.bench.Bench.bench_law.Goals as goal

pub returns : goal.returns
returns g c = is_machine c.self.inside.names c.self.inside.limits c.self.inside.history c.self.inside.cluster
    c.self.inside.journal.steps c.self.inside.meter.count c.args.self.now c.self.view_is c.self.invariant.0
