use Rattle.std.proofs.Common.{◌≡◌, ◌++◌, drop}
use Rattle.diff_core.specs.NetChanges.{beyond}
use Rattle.diff_core.proofs.netting.rows_beyond.Given as goal

-- what was found, and then what the later rows have beyond what is left of the others
abbrev pub invariant-loop-row : goal.invariant-loop-row
invariant-loop-row g l = l.found.items ++ beyond (drop l.row-index l.rows) l.rest ≡ beyond l.fn.rows l.fn.others
