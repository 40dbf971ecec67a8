use Rattle.page_data.proofs.Pasts.{past_holds}
use Rattle.page_data.proofs.laws.past_law.Goals as goal

pub returns : goal.returns
returns c = past_holds
