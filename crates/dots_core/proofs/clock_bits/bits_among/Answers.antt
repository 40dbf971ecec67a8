use Rattle.std.proofs.Common.{◌+◌, ◌∙◌, ap, arith}
use Rattle.dots_core.specs.ClockBits.{has_bit}
use Rattle.dots_core.proofs.CloudBits.{all_told, told_more, told_same}
use Rattle.dots_core.proofs.clock_bits.bits_among.Goals as goal
use Rattle.dots_core.proofs.clock_bits.bits_among.Goals.{then-clock-low+else-clock-low-ge64, else-clock-low}

pub returns-then-clock-low-ge64 : goal.returns-then-clock-low-ge64
returns-then-clock-low-ge64 c = λ k within.
    let far = c.if-clock-low-ge64.true in
    c.loop-clock.invariant k within
    ∙ all_told 0 (c.args.low + k) 0 c.args.clocks.now c.loop-clock.clock-index c.requires.rises c.loop-clock-test.true (omega (arith, far, within))

pub loop-clock-preserved : goal.loop-clock-preserved
loop-clock-preserved c = λ k within.
    elim c.if-clock-low.branch [
      | then-clock-low+else-clock-low-ge64 w ↦
          told_more c.args.low k 0 c.args.clocks.now c.loop-clock.clock-index c.loop-clock-test.true (has_bit c.loop-clock.bits k)
          (has_bit c.if-clock-low.bits k) w.if-clock-low.true (ap (λ b. has_bit b k) w.bits-is ∙ w.with_bit-bits.ensures k)
          (c.loop-clock.invariant k within)
      | else-clock-low w ↦
          ap (λ b. has_bit b k) w.bits-is ∙ c.loop-clock.invariant k within
          ∙ told_same c.args.low k 0 c.args.clocks.now c.loop-clock.clock-index c.loop-clock-test.true w.if-clock-low.false
    ]
