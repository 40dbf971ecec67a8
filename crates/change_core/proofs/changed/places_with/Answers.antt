use Rattle.std.proofs.Common.{◌≡◌, ◌∙◌, ap, sym, Some}
use Rattle.std.specs.Option.{option_map}
use Rattle.order_core.specs.Marks as marks
use Rattle.change_core.specs.Marked.{changed_marks}
use Rattle.change_core.specs.Walks.{steps_in}
use Rattle.change_core.proofs.Played.{an_order_of, no_order_of}
use Rattle.change_core.proofs.Walks.{in_places}
use Rattle.change_core.proofs.changed.places_with.Goals as goal

pub returns-in_default : goal.returns-in_default
returns-in_default g c =
    no_order_of c.args.steps.now c.args.change
    (ap marks.order_of_marks (sym c.in_ok-marks.ensures) ∙ ap marks.order_of_marks (sym c.as_slice.ensures.value) ∙ sym c.in_ok-run.ensures ∙ ap (option_map (λ v. v.items)) c.in_default.is)

pub returns : goal.returns
returns g c =
    let some : marks.order_of_marks (changed_marks c.args.steps.now c.args.change) ≡ Some c.as_slice-2.result.now =
    ap marks.order_of_marks (sym c.in_ok-marks.ensures) ∙ ap marks.order_of_marks (sym c.as_slice.ensures.value) ∙ sym c.in_ok-run.ensures ∙ ap (option_map (λ v. v.items)) c.in-Some.is ∙ ap Some (sym c.as_slice-2.ensures.value) in
    ap Some (ap (steps_in c.args.steps.now) c.in_ok-places_of.ensures ∙ in_places c.args.steps.now c.as_slice-2.result.now)
    ∙ sym (an_order_of c.args.steps.now c.args.change c.as_slice-2.result.now some)
