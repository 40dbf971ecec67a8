use Rattle.std.proofs.Common.{subst}
use Rattle.payload_core.specs.Messages.{AreSeen, Message}
use Rattle.payload_core.proofs.payload.Payload.entries.Goals as goal

pub returns-clause-are_seen : goal.returns-clause-are_seen
returns-clause-are_seen g c = subst (λ (m : Message). AreSeen m.seen m.entries) c.self.view_is c.self.invariant.live
