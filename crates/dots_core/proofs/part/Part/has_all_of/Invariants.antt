use Rattle.std.proofs.Common.{take}
use Rattle.dots_core.specs.Unions.{HasEach}
use Rattle.dots_core.proofs.part.Part.has_all_of.Given as goal

-- it has each clock of the cloud so far
abbrev pub invariant-loop-clock : goal.invariant-loop-clock
invariant-loop-clock g l = HasEach l.self (take l.clock-index l.other.cloud)
