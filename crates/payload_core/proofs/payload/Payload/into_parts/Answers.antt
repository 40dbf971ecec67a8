use Rattle.std.proofs.Common.{subst, ap}
use Rattle.payload_core.specs.Messages.{AreSeen, Message}
use Rattle.payload_core.proofs.payload.Payload.into_parts.Goals as goal

pub returns-clause-are_seen : goal.returns-clause-are_seen
returns-clause-are_seen g c = subst (λ (m : Message). AreSeen m.seen m.entries) c.self.view_is c.self.invariant.live

pub returns-clause-sender : goal.returns-clause-sender
returns-clause-sender g c = ap (λ (m : Message). m.sender) c.self.view_is
