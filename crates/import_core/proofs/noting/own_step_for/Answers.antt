use Rattle.import_core.proofs.noting.own_step_for.Goals as goal

pub returns-in_ok-leave_for-in-Leave-clause-values : goal.returns-in_ok-leave_for-in-Leave-clause-values
returns-in_ok-leave_for-in-Leave-clause-values g c = rw c.in-Leave.is c.in_ok-leave_for-in-Leave.ensures.values
