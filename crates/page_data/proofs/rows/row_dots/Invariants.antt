use Rattle.std.proofs.Common.{◌≡◌, take}
use Rattle.page_data.specs.PageData.{row_dots}
use Rattle.page_data.proofs.rows.row_dots.Given as goal

-- the rows so far
abbrev pub invariant-loop-row : goal.invariant-loop-row
invariant-loop-row g l = l.numbers.items ≡ row_dots (take l.row-index l.rows)
