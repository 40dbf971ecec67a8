use Rattle.std.proofs.Common.{◌≡◌}
use Rattle.page_data.specs.Carried.{names_in}
use Rattle.page_data.proofs.sent.names_in.Given as goal

-- the names so far
abbrev pub invariant-loop-name : goal.invariant-loop-name
invariant-loop-name g l = l.numbers.items ≡ names_in l.message l.name
