use Rattle.bench_core.specs.Machine.{config_of}
use Rattle.layer_tests.proofs.laws.runs_in_order.Goals as goal

pub returns-clause-rises : goal.returns-clause-rises
returns-clause-rises g c =
    (c.headline_law.ensures.given_by_the_remaining_steps (config_of c.args.bench.now) c.args.bench.now.state c.bench_law.ensures.reached).rises
