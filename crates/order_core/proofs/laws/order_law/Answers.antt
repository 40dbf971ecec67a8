use Rattle.order_core.proofs.SameOwn.{behind_holds, order_runs_holds, same_own_holds}
use Rattle.order_core.proofs.laws.order_law.Goals as goal

pub returns-clause-behind : goal.returns-clause-behind
returns-clause-behind c = behind_holds

pub returns-clause-order_runs : goal.returns-clause-order_runs
returns-clause-order_runs c = order_runs_holds

pub returns-clause-same_own : goal.returns-clause-same_own
returns-clause-same_own c = same_own_holds
