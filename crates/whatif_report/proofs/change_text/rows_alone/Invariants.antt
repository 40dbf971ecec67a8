use Rattle.std.proofs.Common.{◌≡◌, take}
use Rattle.diff_core.specs.Diffs.{alone}
use Rattle.whatif_report.proofs.change_text.rows_alone.Given as goal

-- those of the first rows
abbrev pub invariant-loop-row : goal.invariant-loop-row
invariant-loop-row g l = l.found.items ≡ alone (take l.row-index l.rows) l.others
