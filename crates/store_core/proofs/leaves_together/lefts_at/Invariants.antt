use Rattle.std.proofs.Common.{◌≡◌, ◌++◌, drop}
use Rattle.store_core.specs.LeavesTogether.{found_lefts}
use Rattle.store_core.proofs.leaves_together.lefts_at.Given as goal

-- with what stands at the rest, the list is what it is to be
abbrev pub invariant-loop-dot : goal.invariant-loop-dot
invariant-loop-dot g l =
    l.found.items ++ found_lefts (drop l.dot-index l.dots) l.entries.map l.delta_entries.map l.delta_seen
    ≡ found_lefts l.dots l.entries.map l.delta_entries.map l.delta_seen
