use Rattle.std.proofs.Common.{◌≡◌, ◌==◌, ◌++◌, length, map}
use Rattle.std.specs.FinMap as fin
use Rattle.entry_core.specs.Presences.{Entry, entries_of_names}
use Rattle.store_core.proofs.forgotten_name.dots_of_name.Given as goal

-- the rest are those of the entries that are left
abbrev pub invariant-loop-entry : goal.invariant-loop-entry
invariant-loop-entry g l = l.dots.items ++ map (λ (e : Entry). e.dot) l.walk ≡ fin.keys (entries_of_names (λ n. n == l.name) l.entries.map)

abbrev pub decreases-loop-entry : goal.decreases-loop-entry
decreases-loop-entry g l = length l.walk
