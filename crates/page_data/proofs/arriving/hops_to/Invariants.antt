use Rattle.std.proofs.Common.{◌≡◌}
use Rattle.page_data.specs.Carried.{hops_to}
use Rattle.page_data.proofs.arriving.hops_to.Given as goal

-- the names so far
abbrev pub invariant-loop-name : goal.invariant-loop-name
invariant-loop-name g l = l.numbers.items ≡ hops_to l.replica l.message l.name
