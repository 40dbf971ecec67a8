use Rattle.explain_core.proofs.Walks.{makings_more}
use Rattle.explain_core.proofs.making.put_makings.Goals as goal

pub loop-kept-preserved : goal.loop-kept-preserved
loop-kept-preserved g c = makings_more _ _ _ _ _ _ _ _ _ _ c.in-Some.ensures.steps c.loop-kept.invariant c.in_ok-ask.ensures c.in_ok-put_making.ensures
