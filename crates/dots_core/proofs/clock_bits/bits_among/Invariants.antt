use Rattle.std.proofs.Common.{◌≡◌, ℕ, ◌+◌, ◌<◌, take}
use Rattle.dots_core.specs.ClockBits.{has_bit}
use Rattle.dots_core.specs.Clocks.{is_among}
use Rattle.dots_core.proofs.clock_bits.bits_among.Given as goal

-- so far
abbrev pub invariant-loop-clock : goal.invariant-loop-clock
invariant-loop-clock l = (k : ℕ) → k < 64 → has_bit l.bits k ≡ is_among (l.low + k) (take l.clock-index l.clocks)
