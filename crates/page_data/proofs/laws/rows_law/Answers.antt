use Rattle.page_data.proofs.Moved.{rows_hold}
use Rattle.page_data.proofs.laws.rows_law.Goals as goal

pub returns : goal.returns
returns c = rows_hold
