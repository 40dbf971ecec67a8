use Rattle.dots_core.proofs.Parts.{one_part_law}
use Rattle.dots_core.proofs.laws.one_part_law.Goals as goal

pub returns : goal.returns
returns c = one_part_law
