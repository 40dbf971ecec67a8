use Rattle.std.proofs.Common.{ap, ◌%◌, ◌==◌, arith}
use Rattle.std.specs.Int.{w64}
use Rattle.std.proofs.lemmas.Nat.Bits.{bit_at_clear_same, bit_at_clear_other}
use Rattle.entry_core.proofs.mask.without.Goals as goal

pub returns : goal.returns
returns c = record {
  here = ap (λ b. b == 1) (bit_at_clear_same w64 c.args.mask (c.args.clock % 64) (omega arith));
  others =
      λ k within other. ap (λ b. b == 1) (bit_at_clear_other w64 c.args.mask (c.args.clock % 64) (omega arith) k within other);
}
