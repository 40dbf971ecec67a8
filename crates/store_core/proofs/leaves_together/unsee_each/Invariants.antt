use Rattle.std.proofs.Common.{◌≡◌, drop}
use Rattle.store_core.specs.LeavesTogether.{dots_before_each}
use Rattle.store_core.proofs.leaves_together.unsee_each.Given as goal

-- with the rest done, the set is what it is to be
abbrev pub invariant-loop-left : goal.invariant-loop-left
invariant-loop-left g l = dots_before_each (drop l.left-index l.lefts) l.seen ≡ dots_before_each l.lefts l.initial.seen
