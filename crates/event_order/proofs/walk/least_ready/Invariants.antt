use Rattle.std.proofs.Common.{◌≡◌, ◌≤◌, ◌<◌, ℕ, true, length, slice_index}
use Rattle.event_order.specs.Ordering.{waits_at}
use Rattle.event_order.specs.Walks.{is_sent}
use Rattle.event_order.proofs.walk.least_ready.Given as goal

abbrev pub invariant-loop-head : goal.invariant-loop-head
invariant-loop-head l = record {
  within : l.least ≤ length l.events;
  among : l.least < length l.events → (j : ℕ) × (j < l.head-index) × (slice_index l.heads j ≡ l.least);
  ready : l.least < length l.events → is_sent (waits_at l.events l.least) l.sent ≡ true;
  first : (j : ℕ) → j < l.head-index → slice_index l.heads j < l.least → is_sent (waits_at l.events (slice_index l.heads j)) l.sent ≡ true → ⊥;
}
