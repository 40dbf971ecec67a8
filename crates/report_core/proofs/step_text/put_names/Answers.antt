use Rattle.std.proofs.Common.{arith}
use Rattle.report_core.proofs.Texts.{extract_more, extract_all}
use Rattle.report_core.proofs.step_text.put_names.Goals as goal

pub loop-number-preserved : goal.loop-number-preserved
loop-number-preserved g c = extract_more _ _ c.loop-number.number _ _ _ (omega arith) c.loop-number.invariant c.in_ok-put_name.ensures

pub returns : goal.returns
returns g c = extract_all _ _ c.loop-number.number _ _ (omega arith) c.loop-number.invariant
