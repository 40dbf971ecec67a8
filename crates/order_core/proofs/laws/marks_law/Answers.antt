use Rattle.order_core.proofs.Marks.{marks_hold}
use Rattle.order_core.proofs.laws.marks_law.Goals as goal

pub returns : goal.returns
returns c = marks_hold
