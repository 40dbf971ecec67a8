use Rattle.std.proofs.Common.{◌≡◌, ◌<◌, ℕ, Some, length, slice_get}
use Rattle.order_core.specs.declared.mark.Mark.{Mark}
use Rattle.order_core.proofs.AsTheyStand.{Came, SentBefore}
use Rattle.order_core.proofs.ordering.is_behind.Given as goal

-- the steps so far came as they stand
abbrev pub invariant-loop-mark : goal.invariant-loop-mark
invariant-loop-mark g l = record {
  came : Came l.marks l.mark-index;
  sent : SentBefore l.marks l.stands.items l.mark-index;
  known : (i : ℕ) (m : Mark) → slice_get l.marks i ≡ Some m → m.node < length l.stands.items;
}
