use Rattle.std.proofs.Common.{◌-◌}
use Rattle.dots_core.proofs.dot_set.+union_from.Given as goal

abbrev pub decreases-union_from : goal.decreases-union_from
decreases-union_from g l = 32 - l.name
