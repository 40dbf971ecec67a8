use Rattle.explain_core.proofs.Lawful.{standing_holds}
use Rattle.explain_core.proofs.laws.standing_law.Goals as goal

pub returns : goal.returns
returns c = standing_holds
