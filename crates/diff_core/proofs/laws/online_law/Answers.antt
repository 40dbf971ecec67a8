use Rattle.diff_core.proofs.Sorting.{online_holds}
use Rattle.diff_core.proofs.laws.online_law.Goals as goal

pub returns : goal.returns
returns c = online_holds
