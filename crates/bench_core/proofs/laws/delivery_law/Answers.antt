use Rattle.bench_core.proofs.OneEntry.{one_entry_holds}
use Rattle.bench_core.proofs.Deliveries.{exchange_holds, repeat_holds}
use Rattle.bench_core.proofs.laws.delivery_law.Goals as goal

pub returns : goal.returns
returns c = record { one_entry = one_entry_holds; exchanged = exchange_holds; repeated = repeat_holds }
