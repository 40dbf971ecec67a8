use Rattle.std.specs.FinSet as set
use Rattle.store_core.proofs.Undelivered.{OldBelow}
use Rattle.store_core.proofs.store_deliveries.old_parts.Given as goal

-- the names so far have their parts
abbrev pub invariant-loop-name : goal.invariant-loop-name
invariant-loop-name g l = OldBelow (set.contains l.names) l.other l.seen l.name l.parts.items
