use Rattle.page_data.proofs.Recorded.{recorded_holds}
use Rattle.page_data.proofs.laws.recorded_law.Goals as goal

pub returns : goal.returns
returns c = recorded_holds
