use Rattle.std.proofs.Common.{◌≡◌, ◌++◌, drop}
use Rattle.entry_core.specs.EntryLists.{pairs}
use Rattle.store_core.specs.EntryMoves.{found_each}
use Rattle.store_core.proofs.entry_moves.handles_of.Given as goal

-- with those at the rest of the dots they are what is found
abbrev pub invariant-loop-dot : goal.invariant-loop-dot
invariant-loop-dot g l = pairs l.handles.items ++ found_each (drop l.dot-index l.dots) l.entries.map ≡ found_each l.dots l.entries.map
