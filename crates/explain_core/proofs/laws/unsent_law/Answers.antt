use Rattle.explain_core.proofs.Lawful.{unsent_holds}
use Rattle.explain_core.proofs.laws.unsent_law.Goals as goal

pub returns : goal.returns
returns c = unsent_holds
