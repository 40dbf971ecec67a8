use Rattle.std.proofs.Common.{◌≡◌, drop}
use Rattle.store_core.specs.LeavesTogether.{with_dots}
use Rattle.store_core.proofs.leaves_together.see_each.Given as goal

-- with the rest put in, the set is what it is to be
abbrev pub invariant-loop-dot : goal.invariant-loop-dot
invariant-loop-dot g l = with_dots (drop l.dot-index l.dots) l.seen ≡ with_dots l.dots l.initial.seen
