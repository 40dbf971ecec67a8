use Rattle.std.proofs.Common.{◌≡◌, ◌+◌, ◌-◌}
use Rattle.dots_core.specs.Contexts.{IsLast}
use Rattle.dots_core.specs.Dots.{dot}
use Rattle.store_core.specs.LeavesTogether.{without_next}
use Rattle.store_core.proofs.leaves_together.unsee_next.Given as goal

-- with the rest taken out, the set is what it is to be; and where the first was the last of its name, so is the next
abbrev pub invariant-loop-done : goal.invariant-loop-done
invariant-loop-done g l = record {
  seen : without_next l.name l.clock (l.count - l.done) l.seen ≡ without_next l.name l.clock l.count l.fn.seen;
  last : IsLast (dot l.name (l.clock + l.count)) l.fn.seen → IsLast (dot l.name (l.clock + (l.count - l.done))) l.seen;
}
