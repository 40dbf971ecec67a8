use Rattle.std.proofs.Common.{◌≡◌}
use Rattle.page_data.specs.Carried.{missed_by}
use Rattle.page_data.proofs.arriving.missed_by.Given as goal

-- the names so far
abbrev pub invariant-loop-name : goal.invariant-loop-name
invariant-loop-name g l = l.numbers.items ≡ missed_by l.replica l.message l.name
