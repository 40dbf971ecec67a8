use Rattle.std.proofs.Common.{◌≡◌, drop}
use Rattle.entry_core.specs.Lists.{live_ones}
use Rattle.entry_core.proofs.masked.next_live.Given as goal

-- they are among those that are left
abbrev pub invariant-loop-at : goal.invariant-loop-at
invariant-loop-at g l = live_ones l.mask l.entries ≡ live_ones l.mask (drop l.at l.entries)
