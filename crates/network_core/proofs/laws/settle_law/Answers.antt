use Rattle.network_core.proofs.SameMade.{length_holds}
use Rattle.network_core.proofs.Settling.{settle_holds}
use Rattle.network_core.proofs.laws.settle_law.Goals as goal

pub returns-clause-settled : goal.returns-clause-settled
returns-clause-settled c = settle_holds

pub returns-clause-length : goal.returns-clause-length
returns-clause-length c = length_holds
