use Rattle.std.proofs.Common.{◌≡◌, take}
use Rattle.payload_core.proofs.outbox.Outbox.try_copy.Given as goal

abbrev pub invariant-loop-message : goal.invariant-loop-message
invariant-loop-message g l = l.messages.items ≡ take l.message-index l.message-items
