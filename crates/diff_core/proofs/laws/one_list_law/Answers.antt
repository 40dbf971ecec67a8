use Rattle.diff_core.proofs.Listed.{one_list_holds}
use Rattle.diff_core.proofs.laws.one_list_law.Goals as goal

pub returns : goal.returns
returns c = one_list_holds
