use Rattle.std.proofs.Common.{◌≡◌, ◌≤◌, ◌<◌, ℕ}
use Rattle.event_order.specs.Ordering.{node_at}
use Rattle.event_order.proofs.walk.first_of.Given as goal

abbrev pub invariant-loop-place : goal.invariant-loop-place
invariant-loop-place l = (q : ℕ) → l.from ≤ q → q < l.place → node_at l.events q ≡ l.node → ⊥
