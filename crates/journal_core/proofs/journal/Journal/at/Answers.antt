use Rattle.std.proofs.Common.{◌∙◌, sym, ap, Some, slice_get, option_map, option_copied}
use Rattle.journal_core.specs.Holdings.{Held, Journal, kepts}
use Rattle.journal_core.proofs.Rising.{get-kepts}
use Rattle.journal_core.proofs.journal.Journal.at.Goals as goal

pub returns-in-Some : goal.returns-in-Some
returns-in-Some g c =
    ap Some c.kept.ensures ∙ ap (option_map (λ (h : Held). h.kept)) (sym (ap option_copied c.in-Some.is) ∙ c.at.ensures) ∙ sym
    (get-kepts c.self.inside.slots.steps c.args.place) ∙ ap (λ (j : Journal). slice_get (kepts j.steps) c.args.place) c.self.view_is

pub returns-in-None : goal.returns-in-None
returns-in-None g c =
    ap (option_map (λ (h : Held). h.kept)) (sym (ap option_copied c.in-None.is) ∙ c.at.ensures) ∙ sym
    (get-kepts c.self.inside.slots.steps c.args.place) ∙ ap (λ (j : Journal). slice_get (kepts j.steps) c.args.place) c.self.view_is
