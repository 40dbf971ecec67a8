use Rattle.network_core.proofs.Clusters.{step_holds, steps_hold}
use Rattle.network_core.proofs.laws.alike_law.Goals as goal

pub returns-clause-step : goal.returns-clause-step
returns-clause-step c = step_holds

pub returns-clause-steps : goal.returns-clause-steps
returns-clause-steps c = steps_hold
