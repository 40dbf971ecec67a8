use Rattle.std.proofs.Common.{◌≡◌, ◌++◌}
use Rattle.explore_network.specs.Asked.{dots_up_to}
use Rattle.explore_network.proofs.asked.put_own.Given as goal

-- those up to this clock
abbrev pub invariant-loop-before : goal.invariant-loop-before
invariant-loop-before g l = l.dots.items ≡ l.initial.dots.items ++ dots_up_to l.last.name l.before
