use Rattle.run_core.proofs.ReadLines.{step_holds}
use Rattle.run_core.proofs.laws.step_law.Goals as goal

pub returns : goal.returns
returns c = step_holds
