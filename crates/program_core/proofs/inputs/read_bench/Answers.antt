use Rattle.program_core.proofs.Fronts.{bench_at}
use Rattle.program_core.proofs.inputs.read_bench.Goals as goal

pub returns-in-Ok-clause-bench : goal.returns-in-Ok-clause-bench
returns-in-Ok-clause-bench g c =
    rw c.bench_of.ensures (bench_at c.args.setting.now.limits (g.R.Read.remaining c.args.reader.now) c.in-Ok.run'.bench c.in-Ok.run'.consoles c.in-Ok.ensures.run)
