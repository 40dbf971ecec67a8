use Rattle.std.proofs.Common.{◌≡◌, take}
use Rattle.payload_core.proofs.outbox.Outbox.same.Given as goal

-- no difference so far
abbrev pub invariant-loop-place : goal.invariant-loop-place
invariant-loop-place g l = take l.place l.self.messages ≡ take l.place l.other.messages
