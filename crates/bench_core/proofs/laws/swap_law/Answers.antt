use Rattle.bench_core.proofs.Swapped.{swap_holds, places_hold}
use Rattle.bench_core.proofs.laws.swap_law.Goals as goal

pub returns : goal.returns
returns c = record { equal_runs = swap_holds; swaps_by_place = places_hold }
