use Rattle.std.proofs.Common.{◌≡◌}
use Rattle.std.specs.Vec.Iter.{into_iter_items}
use Rattle.store_core.specs.Delivered.{with_parts}
use Rattle.store_core.proofs.store_deliveries.set_parts.Given as goal

-- with the rest put in its place the dots are what they are to be
abbrev pub invariant-loop-old : goal.invariant-loop-old
invariant-loop-old g l = with_parts (into_iter_items l.old-iterator) l.seen ≡ with_parts l.fn.parts.items l.fn.seen
