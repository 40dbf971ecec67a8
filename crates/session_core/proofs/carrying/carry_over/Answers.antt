use Rattle.session_core.proofs.carrying.carry_over.Goals as goal

pub returns-in-Ok-clause-carried : goal.returns-in-Ok-clause-carried
returns-in-Ok-clause-carried g c = (_, c.in_ok-bench.ensures.session, c.in-Ok.ensures.text, c.in-Ok.ensures.saved)
