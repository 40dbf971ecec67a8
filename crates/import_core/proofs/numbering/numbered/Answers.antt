use Rattle.std.proofs.Common.{◌≡◌, ◌++◌, ◌∷◌, [], ap, ◌∙◌, sym, Some, None, true, not, if◌then◌else◌}
use Rattle.bench_core.specs.NameList.{number_in}
use Rattle.import_core.proofs.FirstSights.{inserted, no_new}
use Rattle.import_core.proofs.Numbers.{number_new, none_there}
use Rattle.import_core.proofs.numbering.numbered.Goals as goal

pub returns-clause-number : goal.returns-clause-number
returns-clause-number g c =
    let texts = c.args.texts.now in
    let text = c.args.text.now in
    let none : number_in texts text ≡ None = sym c.number_of.ensures ∙ c.in_default.is in
    let new : c.in_ok-insert.field-0 ≡ true = c.in_ok-insert.ensures.added ∙ ap not (none_there texts text none) in
    let all : c.insert.new.self ≡ texts ++ text ∷ [] = c.in_ok-insert.ensures.texts ∙ ap (λ b. if b then texts ++ text ∷ [] else texts) new in
    ap (λ l. number_in l text) all ∙ number_new texts text none ∙ ap (λ n. Some n) (sym c.len-number.ensures.len)

pub returns-in-Some-clause-texts : goal.returns-in-Some-clause-texts
returns-in-Some-clause-texts g c = no_new c.args.texts.now c.args.text.now c.in-Some.number (sym c.in-Some.ensures)

pub returns-clause-texts : goal.returns-clause-texts
returns-clause-texts g c =
    c.in_ok-insert.ensures.texts ∙ inserted c.args.texts.now c.args.text.now c.in_ok-insert.field-0 c.in_ok-insert.ensures.added
