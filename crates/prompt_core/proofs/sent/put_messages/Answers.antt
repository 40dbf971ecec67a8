use Rattle.std.proofs.Common.{◌≡◌, ◌++◌, ◌∙◌, List, ap, arith, string_bytes, sym}
use Rattle.payload_core.specs.Messages.{Message}
use Rattle.journal_core.specs.Holdings.{kepts}
use Rattle.journal_core.specs.Journals.{sent_by}
use Rattle.prompt_core.specs.Sent.{messages_text}
use Rattle.prompt_core.proofs.SentText.{all_told, message_more, no_gap_of, none_left, numbered-add_one}
use Rattle.prompt_core.proofs.sent.put_messages.Goals as goal

pub unreachable-requires : goal.unreachable-requires
unreachable-requires g c = no_gap_of c.outbox-outbox.result.now.messages c.loop-place.place (omega arith) c.in_default.ensures

-- no sending step is left
pub returns-in_default-next_sent : goal.returns-in_default-next_sent
returns-in_default-next_sent g c =
    none_left c.args.names.now c.outbox-outbox.result.now.messages c.loop-place.place _ _ _ c.in_default-next_sent.ensures.none c.loop-place.invariant
    ∙ ap (λ (ms : List Message). string_bytes c.args.text.now ++ messages_text c.args.names.now 1 ms (sent_by (kepts c.args.journal.now.steps) c.args.node))
    c.outbox-outbox.ensures.messages

pub loop-place-preserved : goal.loop-place-preserved
loop-place-preserved g c =
    message_more c.args.names.now c.outbox-outbox.result.now.messages c.loop-place.place _ _ c.in-Some-next_sent.kept.now c.in-Some.message.now _ _ _
    (sym (numbered-add_one c.outbox-outbox.result.now.messages c.loop-place.place) ∙ sym c.in-Some.ensures)
    c.in-Some-next_sent.ensures.some c.in_ok-put_message.ensures c.loop-place.invariant

pub returns : goal.returns
returns g c =
    all_told c.args.names.now c.outbox-outbox.result.now.messages c.loop-place.place _ _ _ (omega arith) c.loop-place.invariant
    ∙ ap (λ (ms : List Message). string_bytes c.args.text.now ++ messages_text c.args.names.now 1 ms (sent_by (kepts c.args.journal.now.steps) c.args.node))
    c.outbox-outbox.ensures.messages
