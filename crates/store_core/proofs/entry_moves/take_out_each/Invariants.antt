use Rattle.std.proofs.Common.{◌≡◌, ◌≤◌, drop}
use Rattle.store_core.specs.EntryMoves.{without_each}
use Rattle.store_core.proofs.entry_moves.take_out_each.Given as goal

-- with the rest taken out the map is what it is to be
abbrev pub invariant-loop-dot : goal.invariant-loop-dot
invariant-loop-dot g l = record {
  map : without_each (drop l.dot-index l.dots) l.entries.map ≡ without_each l.dots l.initial.entries.map;
  room : l.initial.entries.room ≤ l.entries.room;
}
