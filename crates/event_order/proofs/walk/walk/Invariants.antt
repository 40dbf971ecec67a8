use Rattle.std.proofs.Common.{◌≡◌, length}
use Rattle.event_order.specs.Ordering.{IsBegun, IsNearest}
use Rattle.event_order.specs.Walks.{IsWalk, IsLeastReady, left_of}
use Rattle.event_order.proofs.walk.walk.Given as goal

abbrev pub invariant-loop-place : goal.invariant-loop-place
invariant-loop-place g l = record {
  nodes : length l.heads ≡ length l.initial.heads;
  messages : length l.sent ≡ length l.initial.sent;
  walk : IsWalk l.events l.came.items l.heads l.sent;
  begun : IsBegun l.events l.came.items;
  nearest : IsNearest l.events l.came.items;
  next : IsLeastReady l.events l.heads l.sent l.place;
}

abbrev pub decreases-loop-place : goal.decreases-loop-place
decreases-loop-place g l = left_of l.events l.heads
