use Rattle.bench_core.specs.Acts.{calls_of}
use Rattle.receipt_core.specs.Agree.{AreReceiptsOf, lines_of}
use Rattle.receipt_core.proofs.Answering.{Left}
use Rattle.receipt_core.proofs.agreeing.are_receipts_of.Given as goal

abbrev pub invariant-loop-line_actor : goal.invariant-loop-line_actor
invariant-loop-line_actor g l =
    Left (AreReceiptsOf l.after l.start (lines_of l.actor (calls_of l.lines)) l.receipts) l.after l.actor l.last l.number l.line_actor-index l.told l.lines l.receipts
