use Rattle.std.proofs.Common.{List, ◌++◌, ◌∷◌, [], take, ap, sym, ◌∙◌, take_all}
use Rattle.std.proofs.lemmas.List.{take_more}
use Rattle.payload_core.specs.Messages.{Message}
use Rattle.payload_core.specs.Outboxes.{Outbox}
use Rattle.payload_core.proofs.outbox.Outbox.try_copy.Goals as goal

pub loop-message-preserved : goal.loop-message-preserved
loop-message-preserved g c =
    let items = c.deref-message-items.result.now in
    let i = c.loop-message.message-index in
    let m = c.message-item.result in
    c.in_ok-push.ensures.items
    ∙ ap (λ (ms : List Message). ms ++ c.in_ok-try_copy.field-0 ∷ []) c.loop-message.invariant
    ∙ ap (λ (m : Message). take i items ++ m ∷ []) c.in_ok-try_copy.ensures
    ∙ ap (λ (m : Message). take i items ++ m ∷ []) c.message-item.is
    ∙ sym (take_more items i m c.loop-message-test.true)

pub loop-message-init : goal.loop-message-init
loop-message-init g c = c.in_ok-messages.ensures.items

pub returns-clause-limit : goal.returns-clause-limit
returns-clause-limit g c = ap (λ (o : Outbox). o.limit) c.self.view_is

pub returns-clause-messages : goal.returns-clause-messages
returns-clause-messages g c =
    c.loop-message.invariant ∙ take_all c.loop-message.message-index c.deref-message-items.result.now c.loop-message-test.false
    ∙ c.deref-message-items.ensures.value ∙ ap (λ (o : Outbox). o.messages) c.self.view_is
