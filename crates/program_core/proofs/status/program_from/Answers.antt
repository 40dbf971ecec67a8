use Rattle.program_core.proofs.status.program_from.Goals as goal

pub returns-clause-ends : goal.returns-clause-ends
returns-clause-ends g c = (_, _, c.program_counted.ensures.ends)
