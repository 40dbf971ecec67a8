use Rattle.receipt_core.proofs.asking.ask.Goals as goal

pub returns-clause-reply : goal.returns-clause-reply
returns-clause-reply g c = c.act-reply.ensures.answers
