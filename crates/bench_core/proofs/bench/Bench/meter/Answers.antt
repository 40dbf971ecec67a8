use Rattle.std.proofs.Common.{◌∙◌, ap}
use Rattle.bench_core.specs.Machine.{Machine, given}
use Rattle.bench_core.proofs.bench.Bench.meter.Goals as goal

pub returns : goal.returns
returns g c = c.count.ensures ∙ c.self.invariant.0.count ∙ ap (λ (m : Machine). given m.state.history) c.self.view_is
