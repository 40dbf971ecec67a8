use Rattle.bench_core.proofs.InTurn.{future_undone, least}
use Rattle.bench_core.proofs.Others.{others_stay}
use Rattle.bench_core.proofs.laws.unwind_law.Goals as goal

pub returns : goal.returns
returns c = record { future = future_undone; least = least; others = others_stay }
