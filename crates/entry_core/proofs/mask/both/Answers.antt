use Rattle.std.proofs.Common.{ap, ◌==◌, ◌∙◌}
use Rattle.std.specs.Int.{bit_at}
use Rattle.std.proofs.lemmas.Nat.Bits.{bit_at-lt, bit_at_and}
use Rattle.entry_core.proofs.Bits.{both_one}
use Rattle.entry_core.proofs.mask.both.Goals as goal

pub returns : goal.returns
returns c = λ k.
    ap (λ b. b == 1) (bit_at_and c.args.one c.args.other k)
    ∙ both_one (bit_at c.args.one k) (bit_at c.args.other k) (bit_at-lt c.args.one k) (bit_at-lt c.args.other k)
