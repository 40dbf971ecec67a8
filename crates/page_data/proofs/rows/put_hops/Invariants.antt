use Rattle.std.proofs.Common.{◌≡◌, ◌++◌, take}
use Rattle.page_data.specs.PageData.{row_hops}
use Rattle.page_data.proofs.rows.put_hops.Given as goal

-- the rows so far
abbrev pub invariant-loop-row : goal.invariant-loop-row
invariant-loop-row g l = l.numbers.items ≡ l.fn.numbers.items ++ row_hops l.standing (take l.row-index l.rows)
