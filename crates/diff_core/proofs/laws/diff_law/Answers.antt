use Rattle.diff_core.proofs.Alone.{diff_holds}
use Rattle.diff_core.proofs.laws.diff_law.Goals as goal

pub returns : goal.returns
returns c = diff_holds
