use Rattle.std.proofs.Common.{◌-◌, length}
use Rattle.dots_core.proofs.union.first_from.Given as goal

abbrev pub decreases-loop-place : goal.decreases-loop-place
decreases-loop-place l = length l.cloud - l.place
