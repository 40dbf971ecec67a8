use Rattle.std.proofs.Common.{◌≡◌, ◌++◌}
use Rattle.dots_core.specs.Absorbed.{numbers}
use Rattle.page_data.proofs.clocks.put_clocks.Given as goal

-- the clocks so far
abbrev pub invariant-loop-before : goal.invariant-loop-before
invariant-loop-before g l = l.clocks.items ≡ l.fn.clocks.items ++ numbers 1 l.before
