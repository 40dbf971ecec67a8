use Rattle.std.proofs.Common.{◌≡◌, ◌<◌, ℕ, Some}
use Rattle.event_order.specs.Ordering.{waits_at, IsSent}
use Rattle.event_order.proofs.senders.never_sent.Given as goal

abbrev pub invariant-loop-place : goal.invariant-loop-place
invariant-loop-place l = (earlier message : ℕ) → earlier < l.place → waits_at l.events earlier ≡ Some message → IsSent l.events message
