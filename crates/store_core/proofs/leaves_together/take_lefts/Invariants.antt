use Rattle.std.proofs.Common.{◌≡◌, ◌≤◌, ◌+◌, ◌++◌, length, vec_len}
use Rattle.std.specs.Vec.{vec_capacity}
use Rattle.std.specs.Vec.Iter.{into_iter_items}
use Rattle.store_core.specs.LeavesTogether.{still_there, without_found}
use Rattle.store_core.proofs.leaves_together.take_lefts.Given as goal

-- with the rest taken out, the map and the list are what they are to be, and there is room for the rest
abbrev pub invariant-loop-left : goal.invariant-loop-left
invariant-loop-left g l = record {
  entries : without_found (into_iter_items l.left-iterator) l.entries.map ≡ without_found l.fn.found.items l.fn.entries.map;
  left : l.lefts.items ++ still_there (into_iter_items l.left-iterator) l.entries.map ≡ still_there l.fn.found.items l.fn.entries.map;
  room : vec_len l.lefts + length (into_iter_items l.left-iterator) ≤ vec_capacity l.lefts;
}
