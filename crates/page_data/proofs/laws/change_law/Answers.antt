use Rattle.page_data.proofs.Changes.{change_ends}
use Rattle.page_data.proofs.laws.change_law.Goals as goal

pub returns : goal.returns
returns c = change_ends
