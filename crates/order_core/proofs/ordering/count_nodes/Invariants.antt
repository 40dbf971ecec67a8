use Rattle.std.proofs.Common.{◌≡◌, ◌<◌, ◌≤◌, ℕ, Some, slice_get}
use Rattle.order_core.specs.declared.mark.Mark.{Mark}
use Rattle.order_core.proofs.ordering.count_nodes.Given as goal

abbrev pub invariant-loop-mark : goal.invariant-loop-mark
invariant-loop-mark l = record {
  few : l.count ≤ 65536;
  all : (i : ℕ) (m : Mark) → i < l.mark-index → slice_get l.marks i ≡ Some m → m.node < l.count;
}
