use Rattle.std.proofs.Common.{◌+◌, length}
use Rattle.dots_core.proofs.Unions.{Merges}
use Rattle.dots_core.proofs.union.grown.Given as goal

abbrev pub invariant-loop-next : goal.invariant-loop-next
invariant-loop-next g l = Merges l.own l.other l.union l.left l.right

abbrev pub decreases-loop-next : goal.decreases-loop-next
decreases-loop-next g l = length l.left + length l.right
