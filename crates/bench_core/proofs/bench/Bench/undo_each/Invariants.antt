use Rattle.std.proofs.Common.{take}
use Rattle.bench_core.specs.Unwinds.{AreUndone}
use Rattle.bench_core.proofs.bench.Bench.undo_each.Given as goal

-- the steps so far are undone
abbrev pub invariant-loop-i : goal.invariant-loop-i
invariant-loop-i g l = AreUndone l.initial.self l.actor (take l.i l.numbers) l.self
