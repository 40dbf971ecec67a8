use Rattle.std.proofs.Common.{◌≡◌, filter, length, map, slice_get}
use Rattle.entry_core.specs.Presences.{Entry, dots_of, is_tracked_as, presence_of}
use Rattle.block_core.proofs.entries_by_dot.EntriesByDot.first_tracked.Given as goal

-- it is among those that are left
abbrev pub invariant-loop-entry : goal.invariant-loop-entry
invariant-loop-entry g l =
    slice_get (map (λ (e : Entry). e.dot) (filter (λ (e : Entry). is_tracked_as l.pid l.topic l.key (presence_of e)) l.walk)) 0 ≡
    slice_get (dots_of l.name (is_tracked_as l.pid l.topic l.key) l.self.map) 0

abbrev pub decreases-loop-entry : goal.decreases-loop-entry
decreases-loop-entry g l = length l.walk
