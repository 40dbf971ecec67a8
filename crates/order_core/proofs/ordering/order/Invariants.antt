use Rattle.std.proofs.Common.{◌≡◌, ◌≤◌, ◌-◌, length}
use Rattle.std.specs.Prelude.{vec_capacity, vec_len}
use Rattle.order_core.specs.Turns.{order_after}
use Rattle.order_core.specs.Marks.{of_mark, order_of_marks}
use Rattle.order_core.specs.Stands.{left, next_at, AreStands}
use Rattle.order_core.proofs.ordering.order.Given as goal

-- what is left is put behind what came
abbrev pub invariant-loop-stands : goal.invariant-loop-stands
invariant-loop-stands g l = record {
  ends : order_of_marks l.marks ≡ order_after of_mark (length l.marks - vec_len l.order) l.order.items (left (next_at l.marks l.stands.items) 0 l.marks);
  stand : AreStands l.marks l.order.items l.stands.items;
  room : length l.marks ≤ vec_capacity l.order;
}

abbrev pub decreases-loop-stands : goal.decreases-loop-stands
decreases-loop-stands g l = length l.marks - vec_len l.order
