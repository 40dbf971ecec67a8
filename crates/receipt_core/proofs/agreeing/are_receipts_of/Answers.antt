use Rattle.std.proofs.Common.{arith}
use Rattle.receipt_core.proofs.Answering.{at_end}
use Rattle.receipt_core.proofs.agreeing.are_receipts_of.Goals as goal

pub returns : goal.returns
returns g c = at_end _ _ c.args.actor _ _ _ _ _ _ c.loop-line_actor.invariant (omega arith)
