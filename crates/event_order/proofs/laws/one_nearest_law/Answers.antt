use Rattle.event_order.proofs.Interleavings.{one_nearest_law}
use Rattle.event_order.proofs.laws.one_nearest_law.Goals as goal

pub returns : goal.returns
returns c = one_nearest_law
