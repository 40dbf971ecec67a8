use Rattle.std.proofs.Common.{take}
use Rattle.dots_core.specs.Unions.{GainsEach}
use Rattle.dots_core.proofs.union.insert_each.Given as goal

-- the part has gained the clocks so far
abbrev pub invariant-loop-clock : goal.invariant-loop-clock
invariant-loop-clock g l = GainsEach l.fn.part (take l.clock-index l.clocks) l.part
