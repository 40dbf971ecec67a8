use Rattle.std.proofs.Common.{refl}
use Rattle.import_core.proofs.noting.message_step_for.Goals as goal

pub returns-in_ok-nodes_for-in-Extract-clause-step : goal.returns-in_ok-nodes_for-in-Extract-clause-step
returns-in_ok-nodes_for-in-Extract-clause-step g c =
    rw c.in-Extract.is (c.in_ok-nodes_for-in-Extract.field-0, refl, rw c.deref.ensures.value at c.in_ok-nodes_for-in-Extract.ensures.nodes)
