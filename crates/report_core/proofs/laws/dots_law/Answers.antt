use Rattle.report_core.proofs.OnePart.{dots_hold}
use Rattle.report_core.proofs.laws.dots_law.Goals as goal

pub returns : goal.returns
returns c = dots_hold
