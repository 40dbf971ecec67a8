use Rattle.std.proofs.Common.{◌≡◌, drop}
use Rattle.entry_core.specs.EntryLists.{pairs}
use Rattle.store_core.specs.EntryMoves.{dots_of_pairs, without_each}
use Rattle.store_core.specs.LeavesTogether.{entries_left, unsent_left}
use Rattle.store_core.proofs.leaves_together.discard_lefts.Given as goal

-- with the rest taken out, the maps are what they are to be
abbrev pub invariant-loop-left : goal.invariant-loop-left
invariant-loop-left g l = record {
  entries : without_each (dots_of_pairs (pairs (entries_left (drop l.left-index l.lefts)))) l.entries.map ≡ without_each
      (dots_of_pairs (pairs (entries_left l.lefts))) l.initial.entries.map;
  delta_entries : without_each (dots_of_pairs (pairs (unsent_left (drop l.left-index l.lefts)))) l.delta_entries.map ≡ without_each
      (dots_of_pairs (pairs (unsent_left l.lefts))) l.initial.delta_entries.map;
}
