use Rattle.page_data.proofs.Chained.{track_holds}
use Rattle.page_data.proofs.laws.track_law.Goals as goal

pub returns : goal.returns
returns c = track_holds
