use Rattle.std.proofs.Common.{◌≡◌, [], length}
use Rattle.event_order.specs.Walks.{AreHeads}
use Rattle.event_order.proofs.walk.first_heads.Given as goal

abbrev pub invariant-loop-node : goal.invariant-loop-node
invariant-loop-node g l = record {
  long : length l.heads.items ≡ l.node;
  heads : AreHeads l.events [] l.heads.items;
}
