use Rattle.journal_core.proofs.Loans.{lent_back, lent_out}
use Rattle.journal_core.proofs.laws.loan_law.Goals as goal

pub returns : goal.returns
returns c = record { put_back = lent_back; taken_out = lent_out }
