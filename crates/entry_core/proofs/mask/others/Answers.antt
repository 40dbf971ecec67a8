use Rattle.std.proofs.Common.{ap, ◌==◌, ◌∙◌}
use Rattle.std.specs.Int.{bit_at, w64}
use Rattle.std.proofs.lemmas.Nat.Bits.{bit_at-lt, bit_at_not}
use Rattle.entry_core.proofs.Bits.{not_one}
use Rattle.entry_core.proofs.mask.others.Goals as goal

pub returns : goal.returns
returns c = λ k within.
    ap (λ b. b == 1) (bit_at_not w64 c.args.mask k c.ranges.mask.fits within) ∙ not_one (bit_at c.args.mask k) (bit_at-lt c.args.mask k)
