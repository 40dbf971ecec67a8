use Rattle.explain_core.proofs.Lawful.{steps_hold}
use Rattle.explain_core.proofs.laws.step_law.Goals as goal

pub returns : goal.returns
returns c = steps_hold
