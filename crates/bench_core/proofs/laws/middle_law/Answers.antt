use Rattle.bench_core.proofs.Middle.{middle_holds}
use Rattle.bench_core.proofs.OwnRun.{own_run_holds}
use Rattle.bench_core.proofs.laws.middle_law.Goals as goal

pub returns : goal.returns
returns c = record { own_run = own_run_holds; left_out = middle_holds }
