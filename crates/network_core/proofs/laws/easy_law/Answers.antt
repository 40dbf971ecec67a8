use Rattle.network_core.proofs.Eager.{eager_holds}
use Rattle.network_core.proofs.EagerSteps.{eager_step_holds}
use Rattle.network_core.proofs.laws.easy_law.Goals as goal

pub returns-clause-in_runs : goal.returns-clause-in_runs
returns-clause-in_runs c = eager_holds

pub returns-clause-in_network_runs : goal.returns-clause-in_network_runs
returns-clause-in_network_runs c = eager_step_holds
