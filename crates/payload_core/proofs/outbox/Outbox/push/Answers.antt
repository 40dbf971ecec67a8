use Rattle.std.proofs.Common.{◌++◌, ◌∷◌, [], ◌∙◌, ap}
use Rattle.payload_core.specs.Outboxes.{Outbox}
use Rattle.payload_core.proofs.outbox.Outbox.push.Goals as goal

pub returns-clause-ok : goal.returns-clause-ok
returns-clause-ok g c = c.in_default.ensures.items ∙ ap (λ (o : Outbox). o.messages ++ c.args.payload ∷ []) c.self.view_is

pub returns-clause-limit : goal.returns-clause-limit
returns-clause-limit g c = ap (λ (o : Outbox). o.limit) c.self.view_is

pub returns-in-Err-clause-limit : goal.returns-in-Err-clause-limit
returns-in-Err-clause-limit g c = ap (λ (o : Outbox). o.limit) c.self.view_is

pub returns-in-Err-clause-err : goal.returns-in-Err-clause-err
returns-in-Err-clause-err g c = c.in-Err.ensures.items ∙ ap (λ (o : Outbox). o.messages) c.self.view_is

pub returns-in-Err-clause-given_back : goal.returns-in-Err-clause-given_back
returns-in-Err-clause-given_back g c = c.in-Err.ensures.value_returned
