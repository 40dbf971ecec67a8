use Rattle.std.proofs.Common.{◌≡◌, ◌++◌, take, string_bytes}
use Rattle.report_core.specs.Dots.{more_clocks}
use Rattle.report_core.proofs.dots_text.put_more.Given as goal

-- the clocks so far
abbrev pub invariant-loop-clock : goal.invariant-loop-clock
invariant-loop-clock g l = string_bytes l.text ≡ string_bytes l.fn.text ++ more_clocks (take l.clock-index l.clocks)
