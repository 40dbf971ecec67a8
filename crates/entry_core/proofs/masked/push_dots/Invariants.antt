use Rattle.std.proofs.Common.{◌≡◌, ◌++◌, map, take}
use Rattle.entry_core.specs.Presences.{Entry}
use Rattle.entry_core.specs.Lists.{live_ones}
use Rattle.entry_core.proofs.masked.push_dots.Given as goal

-- so far
abbrev pub invariant-loop-entry : goal.invariant-loop-entry
invariant-loop-entry g l =
    l.dots.items ≡ l.fn.dots.items ++ map (λ (e : Entry). e.dot) (live_ones l.fn.mask (take l.entry-index l.fn.entries))
