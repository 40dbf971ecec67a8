use Rattle.node_core.proofs.Back.{change_of_holds}
use Rattle.node_core.proofs.laws.change_law.Goals as goal

pub returns : goal.returns
returns g = change_of_holds
