use Rattle.std.proofs.Common.{◌≡◌, ◌≤◌, length, take}
use Rattle.change_core.specs.Walks.{IsSomeWalk, StaysWalk}
use Rattle.change_core.proofs.walk.Walk.back_to.Given as goal

-- the first steps are left, and so many more
abbrev pub invariant-loop-self : goal.invariant-loop-self
invariant-loop-self g l = record {
  left : l.self.taken ≡ take (length l.self.taken) l.fn.self.taken;
  some : l.count ≤ length l.self.taken;
  walk : IsSomeWalk l.self;
  stays : StaysWalk l.fn.self l.self;
}

abbrev pub decreases-loop-self : goal.decreases-loop-self
decreases-loop-self g l = length l.self.taken
