use Rattle.dots_core.proofs.Parts.{part_law}
use Rattle.dots_core.proofs.laws.part_law.Goals as goal

pub returns : goal.returns
returns c = part_law
