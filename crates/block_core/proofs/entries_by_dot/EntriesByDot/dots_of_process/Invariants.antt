use Rattle.std.proofs.Common.{◌≡◌, ◌==◌, ◌++◌, filter, length, map}
use Rattle.entry_core.specs.Presences.{Entry, dots_of}
use Rattle.block_core.proofs.entries_by_dot.EntriesByDot.dots_of_process.Given as goal

-- the rest is among those that are left
abbrev pub invariant-loop-entry : goal.invariant-loop-entry
invariant-loop-entry g l =
    l.dots.items ++ map (λ (e : Entry). e.dot) (filter (λ (e : Entry). e.pid == l.pid) l.walk) ≡ dots_of l.name (λ p. p.pid == l.pid) l.self.map

abbrev pub decreases-loop-entry : goal.decreases-loop-entry
decreases-loop-entry g l = length l.walk
