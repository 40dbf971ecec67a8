use Rattle.page_data.proofs.SeenDots.{dots_hold}
use Rattle.page_data.proofs.laws.dots_law.Goals as goal

pub returns : goal.returns
returns c = dots_hold
