use Rattle.std.proofs.Common.{◌∙◌, sym, ap, length}
use Rattle.journal_core.specs.Holdings.{kepts, Journal}
use Rattle.journal_core.proofs.Rising.{kepts_length}
use Rattle.journal_core.proofs.journal.Journal.len.Goals as goal

pub returns : goal.returns
returns g c = c.len.ensures ∙ sym (kepts_length c.self.inside.slots.steps) ∙ ap (λ (j : Journal). length (kepts j.steps)) c.self.view_is
