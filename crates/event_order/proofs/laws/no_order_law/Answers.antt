use Rattle.event_order.proofs.Interleavings.{no_order_law}
use Rattle.event_order.proofs.laws.no_order_law.Goals as goal

pub returns : goal.returns
returns c = no_order_law
