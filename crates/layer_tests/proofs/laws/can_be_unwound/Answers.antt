use Rattle.bench_core.specs.Machine.{config_of}
use Rattle.layer_tests.proofs.laws.can_be_unwound.Goals as goal

pub returns : goal.returns
returns g c = λ actor numbers future.
    c.unwind_law.ensures.future (config_of c.args.bench.now) c.args.bench.now.state actor c.args.number numbers c.bench_law.ensures.reached future
