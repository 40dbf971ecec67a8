use Rattle.dots_core.proofs.CloudBits.{with_told}
use Rattle.dots_core.proofs.clock_bits.with_bit.Goals as goal

pub returns : goal.returns
returns c = λ k. with_told c.args.bits c.args.at k c.requires
