use Rattle.network_core.proofs.Keys.{stand_alike_holds}
use Rattle.network_core.proofs.laws.stand_alike_law.Goals as goal

pub returns : goal.returns
returns c = stand_alike_holds
