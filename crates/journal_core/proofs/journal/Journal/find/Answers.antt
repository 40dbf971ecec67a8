use Rattle.std.proofs.Common.{◌∙◌, sym, ap, Some, option_map, option_copied}
use Rattle.journal_core.specs.Journals.{find_number}
use Rattle.journal_core.specs.Holdings.{Held, Journal, kepts}
use Rattle.journal_core.proofs.Rising.{find_kepts}
use Rattle.journal_core.proofs.journal.Journal.find.Goals as goal

pub returns-in-Some : goal.returns-in-Some
returns-in-Some g c =
    ap Some c.kept.ensures ∙ ap (option_map (λ (h : Held). h.kept)) (sym (ap option_copied c.in-Some.is) ∙ c.find.ensures) ∙ sym
    (find_kepts c.self.inside.slots.steps c.args.number) ∙ ap (λ (j : Journal). find_number (kepts j.steps) c.args.number) c.self.view_is

pub returns-in-None : goal.returns-in-None
returns-in-None g c =
    ap (option_map (λ (h : Held). h.kept)) (sym (ap option_copied c.in-None.is) ∙ c.find.ensures) ∙ sym
    (find_kepts c.self.inside.slots.steps c.args.number) ∙ ap (λ (j : Journal). find_number (kepts j.steps) c.args.number) c.self.view_is
