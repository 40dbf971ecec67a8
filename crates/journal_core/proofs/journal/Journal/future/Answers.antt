use Rattle.std.proofs.Common.{subst}
use Rattle.journal_core.specs.Journals.{AreInCausalOrder}
use Rattle.journal_core.specs.Holdings.{Journal, kepts}
use Rattle.journal_core.proofs.journal.Journal.future.Goals as goal

pub returns-clause-in_order : goal.returns-clause-in_order
returns-clause-in_order g c = subst (λ (j : Journal). AreInCausalOrder (kepts j.steps)) c.self.view_is c.self.invariant.0.0
