use Rattle.report_core.proofs.Texts.{kept_more}
use Rattle.report_core.proofs.step_text.put_kepts.Goals as goal

pub loop-kept-preserved : goal.loop-kept-preserved
loop-kept-preserved g c = kept_more _ _ _ _ _ _ _ c.in-Some.ensures.steps c.loop-kept.invariant c.in_ok-put_kept.ensures
