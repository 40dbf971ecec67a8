use Rattle.std.proofs.Common.{◌≡◌, ◌<◌, ◌≤◌, ℕ, false, length, Some, slice_get}
use Rattle.order_core.specs.declared.ordering.Stand.{Stand}
use Rattle.order_core.specs.Stands.{is_ready, IsReadyAt}
use Rattle.order_core.proofs.ordering.next_place.Given as goal

-- the least of those that were looked at
abbrev pub invariant-loop-stand : goal.invariant-loop-stand
invariant-loop-stand l = record {
  within : l.least ≤ length l.marks;
  ready : l.least < length l.marks → IsReadyAt l.marks l.stands l.least;
  others : (n : ℕ) (s : Stand) → n < l.stand-index → slice_get l.stands n ≡ Some s → s.next < l.least → is_ready l.stands (slice_get l.marks s.next) ≡ false;
}
