use Rattle.std.proofs.Common.{◌≡◌, ◌++◌, drop}
use Rattle.diff_core.specs.Diffs.{alone}
use Rattle.diff_core.specs.Online.{AreInOrder}
use Rattle.diff_core.proofs.comparing.rows_alone.Given as goal

-- what was found, and then the later rows that are none of what is left of the others; the latter are in order
abbrev pub invariant-loop-row : goal.invariant-loop-row
invariant-loop-row g l = (l.found.items ++ alone (drop l.row-index l.rows) l.rest ≡ alone l.fn.rows l.fn.others) × AreInOrder l.rest
