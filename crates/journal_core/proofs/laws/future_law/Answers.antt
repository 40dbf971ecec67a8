use Rattle.journal_core.proofs.InTurn.{future_holds}
use Rattle.journal_core.proofs.laws.future_law.Goals as goal

pub returns : goal.returns
returns c = future_holds
