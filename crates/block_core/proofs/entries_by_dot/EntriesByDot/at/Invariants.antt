use Rattle.std.proofs.Common.{◌≡◌, drop}
use Rattle.block_core.specs.Sets.{listed}
use Rattle.block_core.proofs.entries_by_dot.EntriesByDot.at.Given as goal

-- those before are gone
abbrev pub invariant-loop : goal.invariant-loop
invariant-loop g l = l.walk ≡ drop l.counter (listed l.self.map)
