use Rattle.std.proofs.Common.{◌∙◌, sym, ap, lit<}
use Rattle.journal_core.specs.Numbers.{place_of}
use Rattle.journal_core.proofs.NumberLists.{place_below, all_but_none, all_but_at}
use Rattle.journal_core.proofs.causes.remove.Goals as goal

pub remove-requires : goal.remove-requires
remove-requires g c = (
  lit< tt,
  place_below c.args.number c.args.numbers.now.items c.in-Some.place
      (ap (λ l. place_of l c.args.number) (sym c.as_slice.ensures) ∙ sym c.place.ensures ∙ c.in-Some.is),
)

pub returns-in-Some-clause-items : goal.returns-in-Some-clause-items
returns-in-Some-clause-items g c =
    c.remove.ensures.items ∙ all_but_at 0 c.args.number c.args.numbers.now.items c.in-Some.place c.requires
    (ap (λ l. place_of l c.args.number) (sym c.as_slice.ensures) ∙ sym c.place.ensures ∙ c.in-Some.is)

pub returns-in_default-clause-items : goal.returns-in_default-clause-items
returns-in_default-clause-items g c =
    sym (all_but_none c.args.number c.args.numbers.now.items
    (ap (λ l. place_of l c.args.number) (sym c.as_slice.ensures) ∙ sym c.place.ensures ∙ c.in_default.is))
