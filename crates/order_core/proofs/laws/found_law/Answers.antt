use Rattle.order_core.proofs.Ordered.{found_run_holds, order_of_holds}
use Rattle.order_core.proofs.laws.found_law.Goals as goal

pub returns-clause-order_of : goal.returns-clause-order_of
returns-clause-order_of c = order_of_holds

pub returns-clause-found_run : goal.returns-clause-found_run
returns-clause-found_run c = found_run_holds
