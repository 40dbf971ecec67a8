use Rattle.std.proofs.Common.{◌≡◌, take}
use Rattle.entry_core.specs.EntryLists.{pairs}
use Rattle.store_core.specs.EntryMoves.{dots_of_pairs}
use Rattle.store_core.proofs.store_deliveries.dots_of.Given as goal

-- the dots of the entries so far
abbrev pub invariant-loop-entry : goal.invariant-loop-entry
invariant-loop-entry g l = l.dots.items ≡ dots_of_pairs (pairs (take l.entry-index l.entries))
