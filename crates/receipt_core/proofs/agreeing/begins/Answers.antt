use Rattle.std.proofs.Common.{rules}
use Rattle.receipt_core.proofs.Named.{same-more}
use Rattle.receipt_core.proofs.agreeing.begins.Goals as goal

pub loop-i-preserved : goal.loop-i-preserved
loop-i-preserved g c = same-more _ _ _ c.in-Some-Some.old.now (search rules) (search rules) c.loop-i.invariant
