use Rattle.network_core.proofs.Own.{own_holds}
use Rattle.network_core.proofs.laws.own_law.Goals as goal

pub returns : goal.returns
returns c = own_holds
