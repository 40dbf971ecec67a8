use Rattle.node_core.proofs.Back.{way_back}
use Rattle.node_core.proofs.laws.way_back_law.Goals as goal

pub returns : goal.returns
returns g = way_back
