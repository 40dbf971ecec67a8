use Rattle.journal_core.proofs.Futures.{is_future}
use Rattle.journal_core.proofs.laws.gathered_law.Goals as goal

pub returns : goal.returns
returns c = λ ks n order. is_future n ks order
