use Rattle.bench_core.proofs.Loop.{loop_holds}
use Rattle.bench_core.proofs.laws.loop_law.Goals as goal

pub returns : goal.returns
returns c = loop_holds
