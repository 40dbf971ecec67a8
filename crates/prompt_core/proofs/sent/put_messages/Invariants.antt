use Rattle.std.proofs.Common.{◌≡◌, ◌++◌, ◌+◌, drop, string_bytes}
use Rattle.journal_core.specs.Holdings.{kepts}
use Rattle.journal_core.specs.Journals.{sent_by}
use Rattle.prompt_core.specs.Sent.{messages_text}
use Rattle.prompt_core.proofs.sent.put_messages.Given as goal

-- the messages that are left are to come, by the sending steps that are
abbrev pub invariant-loop-place : goal.invariant-loop-place
invariant-loop-place g l =
    string_bytes l.text ++ messages_text l.names (l.place + 1) (drop l.place l.outbox.messages) (sent_by l.steps l.node) ≡
    string_bytes l.fn.text ++ messages_text l.names 1 l.outbox.messages (sent_by (kepts l.journal.steps) l.node)
