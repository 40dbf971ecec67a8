use Rattle.std.proofs.Common.{◌≡◌, ◌++◌, take}
use Rattle.entry_core.specs.Lists.{live_ones}
use Rattle.entry_core.proofs.masked.push_copies.Given as goal

-- so far
abbrev pub invariant-loop-entry : goal.invariant-loop-entry
invariant-loop-entry g l = l.list.items ≡ l.fn.list.items ++ live_ones l.fn.mask (take l.entry-index l.fn.entries)
