use Rattle.std.proofs.Common.{◌≡◌, length}
use Rattle.diff_core.specs.Diffs.{not_below}
use Rattle.diff_core.proofs.comparing.not_below.Given as goal

-- what is still to be looked at gives what all the rows give
abbrev pub invariant-loop-first : goal.invariant-loop-first
invariant-loop-first g l = not_below l.row l.rest ≡ not_below l.row l.fn.rows

abbrev pub decreases-loop-first : goal.decreases-loop-first
decreases-loop-first g l = length l.rest
