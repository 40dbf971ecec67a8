use Rattle.std.proofs.Common.{arith}
use Rattle.std.proofs.lemmas.Grind.{elements}
use Rattle.report_core.proofs.moved.none_moved.Goals as goal

pub loop-preserved : goal.loop-preserved
loop-preserved g c = grind (arith, elements)
