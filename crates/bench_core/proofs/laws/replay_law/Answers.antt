use Rattle.bench_core.proofs.NoMemory.{no_memory}
use Rattle.bench_core.proofs.Replays.{replay_holds}
use Rattle.bench_core.proofs.laws.replay_law.Goals as goal

pub returns : goal.returns
returns c = record { replayed = replay_holds; no_memory = no_memory }
