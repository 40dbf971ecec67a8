use Rattle.std.proofs.Common.{◌≡◌, drop}
use Rattle.entry_core.specs.EntryLists.{pairs}
use Rattle.store_core.specs.EntryMoves.{dots_of_pairs, without_each}
use Rattle.store_core.proofs.entry_moves.discard_each.Given as goal

-- with the rest taken out the map is what it is to be
abbrev pub invariant-loop-handle : goal.invariant-loop-handle
invariant-loop-handle g l =
    without_each (dots_of_pairs (pairs (drop l.handle-index l.handles))) l.entries.map ≡
    without_each (dots_of_pairs (pairs l.handles)) l.initial.entries.map
