use Rattle.std.proofs.Common.{◌+◌, ◌*◌, ◌∙◌, ◌&&◌, ◌||◌, ap, arith, nat_le, nat_lt, subst, sym}
use Rattle.dots_core.specs.ClockBits.{has_bit}
use Rattle.dots_core.specs.Clocks.{RisesAbove, holds, is_among}
use Rattle.dots_core.proofs.Clocks.{rises_lower}
use Rattle.dots_core.proofs.CloudBits.{or_told}
use Rattle.dots_core.proofs.part.Part.bits.Goals as goal

pub cloud_bits-requires-clause-rises : goal.cloud_bits-requires-clause-rises
cloud_bits-requires-clause-rises g c =
    subst (RisesAbove 0) (sym c.deref.ensures.value)
    (rises_lower 0 (c.self.inside.clock + 1) c.self.inside.cloud.items (omega arith) c.self.invariant.rises)

pub returns : goal.returns
returns g c = λ k within.
    or_told c.run_bits.result c.cloud_bits.result k
    ∙ ap (λ t. t || has_bit c.cloud_bits.result k) (c.run_bits.ensures k within)
    ∙ ap (λ t. (nat_lt 0 (c.args.base * 64 + k) && nat_le (c.args.base * 64 + k) c.self.inside.clock) || t)
    (c.cloud_bits.ensures k within ∙ ap (is_among (c.args.base * 64 + k)) c.deref.ensures.value)
    ∙ ap (λ p. holds p (c.args.base * 64 + k)) c.self.view_is
