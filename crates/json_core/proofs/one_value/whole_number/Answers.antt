use Rattle.std.proofs.Common.{◌≢◌, ap, ◌∙◌, arith}
use Rattle.std.proofs.lemmas.Grind.{common_steps}
use Rattle.std.specs.Prelude.{slice_index}
use Rattle.fast_float.specs.Text.{minus, scan}
use Rattle.json_core.proofs.WholeNumbers.{whole_read}
use Rattle.json_core.proofs.one_value.whole_number.Goals as goal

pub returns : goal.returns
returns c =
    let unsigned : slice_index c.args.text.now 0 ≢ minus = grind (arith, common_steps) in
    whole_read _ _ _ unsigned (c.scan.ensures.parts ∙ ap scan c.as_bytes-digits.ensures.value) c.to_u64.ensures
