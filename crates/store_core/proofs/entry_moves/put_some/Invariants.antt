use Rattle.std.proofs.Common.{◌≡◌, drop}
use Rattle.entry_core.specs.EntryLists.{pairs}
use Rattle.store_core.specs.EntryMoves.{AreNew, dots_of_pairs, with_each, without_each}
use Rattle.store_core.proofs.entry_moves.put_some.Given as goal

-- the rest are new, with them the map is what it is to be, and without all of them it is what it was
abbrev pub invariant-loop-handle : goal.invariant-loop-handle
invariant-loop-handle g l = record {
  new : AreNew (pairs (drop l.handle-index l.handles)) l.entries.map;
  rest : with_each (pairs (drop l.handle-index l.handles)) l.entries.map ≡ with_each (pairs l.handles) l.initial.entries.map;
  back : without_each (dots_of_pairs (pairs l.handles)) l.entries.map ≡ l.initial.entries.map;
}
