use Rattle.std.proofs.Common.{◌≡◌, ◌≤◌, ◌<◌, ℕ, slice_index}
use Rattle.event_order.proofs.walk.least.Given as goal

abbrev pub invariant-loop-number : goal.invariant-loop-number
invariant-loop-number l = record {
  within : l.least ≤ l.limit;
  among : l.least < l.limit → (j : ℕ) × (j < l.number-index) × (slice_index l.numbers j ≡ l.least);
  first : (j : ℕ) → j < l.number-index → slice_index l.numbers j < l.limit → l.least ≤ slice_index l.numbers j;
}
