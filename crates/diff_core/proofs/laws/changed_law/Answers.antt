use Rattle.diff_core.proofs.Told.{changed_holds}
use Rattle.diff_core.proofs.laws.changed_law.Goals as goal

pub returns : goal.returns
returns c = changed_holds
