use Rattle.std.proofs.Common.{◌∙◌, sym, ap, option_copied}
use Rattle.journal_core.specs.Holdings.{Journal, find_held, inverse_of}
use Rattle.journal_core.proofs.journal.Journal.inverse.Goals as goal

pub returns-in-Some : goal.returns-in-Some
returns-in-Some g c =
    c.inverse.ensures ∙ ap inverse_of (sym (ap option_copied c.in-Some.is) ∙ c.find-held.ensures)
    ∙ ap (λ (j : Journal). inverse_of (find_held j.steps c.args.number)) c.self.view_is

pub returns-in-None : goal.returns-in-None
returns-in-None g c =
    ap inverse_of (sym (ap option_copied c.in-None.is) ∙ c.find-held.ensures)
    ∙ ap (λ (j : Journal). inverse_of (find_held j.steps c.args.number)) c.self.view_is
