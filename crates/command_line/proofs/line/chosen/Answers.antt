use Rattle.std.proofs.Common.{◌≡◌, codes, sym, ap, subst, ◌∙◌, true, true≢false}
use Rattle.clap.specs.Words.{first_value, found_of}
use Rattle.command_line.specs.declared.chosen.Form.{Form}
use Rattle.command_line.specs.Line.{IsForm, name_of, usual_form, can_print}
use Rattle.command_line.proofs.Forms.{usual_alike, can_alike, form_alike}
use Rattle.command_line.proofs.Rows.{none_chosen}
use Rattle.command_line.proofs.line.chosen.Goals as goal

pub returns-in_default-clause-err : goal.returns-in_default-clause-err
returns-in_default-clause-err c =
    none_chosen c.args.name.now (λ option. first_value (found_of c.args.matches.now) option) c.question_of.result c.about_of.result c.question_of.ensures.none c.about_of.ensures.none
    c.about_of.ensures.some
    c.in_default.ensures.none

pub returns-in_default-form_of-clause-err : goal.returns-in_default-form_of-clause-err
returns-in_default-form_of-clause-err c choice is =
    c.in_default-form_of.ensures.none choice.form
    (subst (λ (u : Form). IsForm u (first_value (found_of c.args.matches.now) (codes "as")) choice.form)
    (usual_alike choice.command c.in-Some.command (sym is.name_is ∙ c.in-Some.ensures.name) ∙ sym c.usual_form.ensures) is.form)

pub returns-then-not-can_print-clause-err : goal.returns-then-not-can_print-clause-err
returns-then-not-can_print-clause-err c choice is =
    let value = first_value (found_of c.args.matches.now) in
    let command = c.in-Some.command in
    let form : Form = c.in-Some-form_of.form in
    let same : name_of choice.command ≡ name_of command = sym is.name_is ∙ c.in-Some.ensures.name in
    let alike : choice.form ≡ form = form_alike (usual_form command) (value (codes "as")) choice.form form
    (subst (λ (u : Form). IsForm u (value (codes "as")) choice.form) (usual_alike choice.command command same) is.form)
    (subst (λ (u : Form). IsForm u (value (codes "as")) form) c.usual_form.ensures c.in-Some-form_of.ensures.some) in
    let prints : can_print command form ≡ true = sym (can_alike (value (codes "check")) is.options c.in-Ok.options is.question c.question_of.result is.about c.about_of.result choice.command command form same
    is.takes c.in-Some.ensures.takes is.options_are.check c.in-Ok.ensures.ok.check) ∙ ap (λ (f : Form). can_print choice.command f) (sym alike) ∙ is.printed in
    true≢false (sym prints ∙ sym c.can_print.ensures ∙ c.if-not-can_print.true)
