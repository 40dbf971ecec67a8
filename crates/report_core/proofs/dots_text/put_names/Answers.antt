use Rattle.std.proofs.Common.{arith, rules}
use Rattle.report_core.proofs.Texts.{name_lines_more, name_lines_all}
use Rattle.report_core.proofs.dots_text.put_names.Goals as goal

pub loop-number-preserved : goal.loop-number-preserved
loop-number-preserved g c =
    name_lines_more _ _ c.loop-number.number _ _ _ _ (omega arith) c.loop-number.invariant c.name_at.ensures c.in_ok-put_name.ensures

pub returns : goal.returns
returns g c = name_lines_all _ _ c.loop-number.number _ _ (omega arith) c.loop-number.invariant

pub put_name-requires : goal.put_name-requires
put_name-requires g c = (search tt, (search rules, c.requires))
