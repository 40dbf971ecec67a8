use Rattle.network_core.proofs.NextDeliveries.{next_delivery_holds, quiet_holds}
use Rattle.network_core.proofs.laws.next_law.Goals as goal

pub returns-clause-quiet : goal.returns-clause-quiet
returns-clause-quiet c = quiet_holds

pub returns-clause-next : goal.returns-clause-next
returns-clause-next c = next_delivery_holds
