use Rattle.std.proofs.Common.{◌≡◌, subst}
use Rattle.std.specs.Prelude.{IfSome}
use Rattle.payload_core.specs.Messages.{Message, request_message}
use Rattle.payload_core.proofs.payload.Payload.asked.Goals as goal

pub returns-clause-bare : goal.returns-clause-bare
returns-clause-bare g c = subst (λ (m : Message). IfSome c.self.inside.asked (λ names. m ≡ request_message m.sender names)) c.self.view_is c.self.invariant.bare
