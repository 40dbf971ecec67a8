use Rattle.std.proofs.Common.{inl, inr}
use Rattle.dots_core.proofs.CloudBits.{run_told}
use Rattle.dots_core.proofs.clock_bits.run_bits.Goals as goal
use Rattle.dots_core.proofs.clock_bits.run_bits.Goals.{then-low-eq0, else-low-eq0}

pub returns : goal.returns
returns c = λ k within.
    run_told c.args.clock c.args.low c.if-low-eq0.first c.min-end.result c.ones_below.result c.ones_below-2.result k c.if-clock-low.false
    (elim c.if-low-eq0.branch [
      | then-low-eq0 w ↦ inl (w.if-low-eq0.true, w.first-is)
      | else-low-eq0 w ↦ inr (w.if-low-eq0.false, w.first-is)
    ]) c.min-end.ensures c.ones_below.ensures c.ones_below-2.ensures within
