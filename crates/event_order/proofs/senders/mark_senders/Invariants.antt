use Rattle.std.proofs.Common.{◌≡◌, length}
use Rattle.event_order.specs.Walks.{IsSentUpTo, NoTwiceUpTo}
use Rattle.event_order.proofs.senders.mark_senders.Given as goal

abbrev pub invariant-loop-place : goal.invariant-loop-place
invariant-loop-place l = record {
  long : length l.sent ≡ length l.initial.sent;
  sent : IsSentUpTo l.events l.place l.sent;
  once : NoTwiceUpTo l.events l.place;
}
