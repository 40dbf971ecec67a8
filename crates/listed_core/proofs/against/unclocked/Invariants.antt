use Rattle.std.proofs.Common.{◌≡◌, map, take}
use Rattle.listed_core.specs.Against.{unclocked}
use Rattle.listed_core.proofs.against.unclocked.Given as goal

abbrev pub invariant-loop-row : goal.invariant-loop-row
invariant-loop-row g l = l.copies.items ≡ map unclocked (take l.row-index l.rows)
