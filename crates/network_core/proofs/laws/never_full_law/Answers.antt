use Rattle.network_core.proofs.NeverFull.{never_full_holds}
use Rattle.network_core.proofs.laws.never_full_law.Goals as goal

pub returns : goal.returns
returns c = never_full_holds
