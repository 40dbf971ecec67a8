use Rattle.std.proofs.Common.{ap, ◌%◌, ◌==◌, arith}
use Rattle.std.specs.Int.{w64}
use Rattle.std.proofs.lemmas.Nat.Bits.{bit_at_set_same, bit_at_set_other}
use Rattle.entry_core.proofs.mask.with.Goals as goal

pub returns : goal.returns
returns c = record {
  here = ap (λ b. b == 1) (bit_at_set_same w64 c.args.mask (c.args.clock % 64) (omega arith));
  others = λ k within other. ap (λ b. b == 1) (bit_at_set_other w64 c.args.mask (c.args.clock % 64) (omega arith) k other);
}
