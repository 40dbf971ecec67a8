use Rattle.explain_core.proofs.Lawful.{undelivered_holds}
use Rattle.explain_core.proofs.laws.undelivered_law.Goals as goal

pub returns : goal.returns
returns c = undelivered_holds
