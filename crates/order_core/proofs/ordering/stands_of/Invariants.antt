use Rattle.std.proofs.Common.{◌≡◌, ◌≤◌, ℕ, Some, slice_get}
use Rattle.std.specs.Prelude.{vec_capacity, vec_len}
use Rattle.order_core.specs.declared.ordering.Stand.{Stand}
use Rattle.order_core.specs.Stands.{first_of}
use Rattle.order_core.proofs.ordering.stands_of.Given as goal

abbrev pub invariant-loop-node : goal.invariant-loop-node
invariant-loop-node g l = record {
  each : (n : ℕ) (s : Stand) → slice_get l.stands.items n ≡ Some s → (s.next ≡ first_of n 0 l.marks) × (s.sent ≡ 0);
  count : vec_len l.stands ≡ l.node;
  room : l.count ≤ vec_capacity l.stands;
}
