use Rattle.worker_core.proofs.racing.race.Goals as goal

pub returns-in-Ok-clause-agrees : goal.returns-in-Ok-clause-agrees
returns-in-Ok-clause-agrees g c = rw c.in-Some-known_of.ensures.history at c.in-Ok.ensures.agrees
