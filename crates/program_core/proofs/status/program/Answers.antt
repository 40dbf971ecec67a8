use Rattle.program_core.proofs.status.program.Goals as goal

pub returns-clause-ends : goal.returns-clause-ends
returns-clause-ends g c = rw (← c.usual.ensures) c.program_within.ensures.ends

pub returns-clause-quiet : goal.returns-clause-quiet
returns-clause-quiet g c = rw (← c.usual.ensures) c.program_within.ensures.quiet
