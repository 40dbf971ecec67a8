use Rattle.std.proofs.Common.{◌≡◌, ◌-◌, ◌++◌}
use Rattle.event_core.specs.Format.{numbers_from, numbers_of}
use Rattle.event_core.proofs.write_act.numbers_of.Given as goal

-- the numbers so far, and then those that are left
abbrev pub invariant-loop-number : goal.invariant-loop-number
invariant-loop-number l = l.numbers.items ++ numbers_from l.names l.number (32 - l.number) ≡ numbers_of l.names
