use Rattle.std.proofs.Common.{◌≡◌, ◌∙◌, ◌<◌, length, sym, ap, subst, None}
use Rattle.std.proofs.lemmas.List.{get_or_read}
use Rattle.journal_core.specs.Numbers.{last}
use Rattle.journal_core.specs.Journals.{last_of}
use Rattle.journal_core.specs.Holdings.{Journal, kepts}
use Rattle.journal_core.specs.Causes.{Causes, causes_at, no_causes}
use Rattle.journal_core.proofs.Consequences.{last_is_own}
use Rattle.journal_core.proofs.journal.Journal.last_of.Goals as goal

pub returns : goal.returns
returns g c =
    let within : c.args.node < length c.self.inside.causes.items = subst (λ (j : Journal). c.args.node < j.nodes) (sym c.self.view_is) c.requires in
    let read : c.index.result.now ≡ causes_at c.self.inside.causes.items c.args.node =
    get_or_read c.self.inside.causes.items c.args.node c.index.result.now within c.index.ensures no_causes in
    c.last.ensures ∙ ap (λ (v : Causes). last None v.own) read ∙ ap (last None) (c.self.invariant.0.2 c.args.node within).own ∙ sym
    (last_is_own c.args.node None (kepts c.self.inside.slots.steps)) ∙ ap (λ (j : Journal). last_of (kepts j.steps) c.args.node) c.self.view_is
