use Rattle.event_order.proofs.Interleavings.{nearest_law}
use Rattle.event_order.proofs.laws.nearest_law.Goals as goal

pub returns : goal.returns
returns c = nearest_law
