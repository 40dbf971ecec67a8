use Rattle.std.proofs.Common.{take}
use Rattle.entry_core.specs.Lists.{AreShort}
use Rattle.entry_core.proofs.entry_list.are_short.Given as goal

-- so far they are short
abbrev pub invariant-loop-entry : goal.invariant-loop-entry
invariant-loop-entry g l = AreShort (take l.entry-index l.entries)
