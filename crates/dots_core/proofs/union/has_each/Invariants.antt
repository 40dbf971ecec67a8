use Rattle.std.proofs.Common.{take}
use Rattle.dots_core.specs.Unions.{HasEach}
use Rattle.dots_core.proofs.union.has_each.Given as goal

abbrev pub invariant-loop-clock : goal.invariant-loop-clock
invariant-loop-clock g l = HasEach l.own (take l.clock-index l.clocks)
