use Rattle.std.proofs.Common.{ap}
use Rattle.payload_core.specs.Messages.{Message}
use Rattle.payload_core.proofs.payload.Payload.sender.Goals as goal

pub returns : goal.returns
returns g c = ap (λ (m : Message). m.sender) c.self.view_is
