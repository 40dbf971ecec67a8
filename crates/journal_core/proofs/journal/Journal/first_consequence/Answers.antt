use Rattle.std.proofs.Common.{◌∙◌, sym, ap, option_copied}
use Rattle.journal_core.specs.Journals.{Kept}
use Rattle.journal_core.proofs.journal.Journal.first_consequence.Goals as goal

pub first_consequence_at-requires : goal.first_consequence_at-requires
first_consequence_at-requires g c = (
  c.in-Some.kept.now,
  sym c.find.ensures ∙ ap option_copied c.in-Some.is,
  sym (ap (λ (k : Kept). k.node) c.kept.view_is),
)
