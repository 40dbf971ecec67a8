use Rattle.event_order.proofs.Interleavings.{interleaving_law}
use Rattle.event_order.proofs.laws.interleaving_law.Goals as goal

pub returns : goal.returns
returns c = interleaving_law
