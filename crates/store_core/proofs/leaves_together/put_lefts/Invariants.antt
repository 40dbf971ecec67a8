use Rattle.std.proofs.Common.{◌≡◌, drop}
use Rattle.entry_core.specs.EntryLists.{pairs}
use Rattle.store_core.specs.EntryMoves.{AreNew, dots_of_pairs, with_each, without_each}
use Rattle.store_core.specs.LeavesTogether.{entries_left, unsent_left}
use Rattle.store_core.proofs.leaves_together.put_lefts.Given as goal

-- the rest are new, and with them the maps are what they are to be; and with all of them out, they are as they were
abbrev pub invariant-loop-left : goal.invariant-loop-left
invariant-loop-left g l = record {
  new : AreNew (pairs (entries_left (drop l.left-index l.lefts))) l.entries.map;
  new_in_delta : AreNew (pairs (unsent_left (drop l.left-index l.lefts))) l.delta_entries.map;
  rest : with_each (pairs (entries_left (drop l.left-index l.lefts))) l.entries.map ≡ with_each (pairs (entries_left l.lefts)) l.initial.entries.map;
  delta_rest : with_each (pairs (unsent_left (drop l.left-index l.lefts))) l.delta_entries.map ≡ with_each
      (pairs (unsent_left l.lefts)) l.initial.delta_entries.map;
  back : without_each (dots_of_pairs (pairs (entries_left l.lefts))) l.entries.map ≡ l.initial.entries.map;
  delta_back : without_each (dots_of_pairs (pairs (unsent_left l.lefts))) l.delta_entries.map ≡ l.initial.delta_entries.map;
}
