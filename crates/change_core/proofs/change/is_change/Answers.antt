use Rattle.std.proofs.Common.{◌≡◌, ◌∙◌, Some, ap, sym, slice_get}
use Rattle.std.specs.Option.{option_copied}
use Rattle.bench_core.proofs.Places.{looked_up}
use Rattle.journal_core.specs.Journals.{Kept}
use Rattle.change_core.specs.Changes.{is_delivery, is_notice}
use Rattle.change_core.proofs.Changing.{is_again, is_before, is_behind, is_lost, is_never, no_other, no_step}
use Rattle.change_core.proofs.Played.{nothing_read}
use Rattle.change_core.proofs.change.is_change.Goals as goal

pub returns-in_default : goal.returns-in_default
returns-in_default g c = no_step c.args.steps.now c.args.change (nothing_read c.args.steps.now c.args.change.place (sym c.in_default.ensures.lookup.0))

pub returns-in_default-get : goal.returns-in_default-get
returns-in_default-get g c =
    let at : slice_get c.args.steps.now c.args.change.place ≡ Some c.in-Some.kept.now =
    sym (looked_up c.get.result c.args.steps.now c.args.change.place c.get.ensures.lookup.0 c.get.ensures.lookup.1) ∙ ap option_copied c.in-Some.is in
    no_other c.args.steps.now c.args.change c.in-Some.kept.now at (nothing_read c.args.steps.now c.args.change.beside (sym c.in_default-get.ensures.lookup.0))

pub returns-then-place-beside : goal.returns-then-place-beside
returns-then-place-beside g c =
    let at : slice_get c.args.steps.now c.args.change.place ≡ Some c.in-Some.kept.now =
    sym (looked_up c.get.result c.args.steps.now c.args.change.place c.get.ensures.lookup.0 c.get.ensures.lookup.1) ∙ ap option_copied c.in-Some.is in
    let by : slice_get c.args.steps.now c.args.change.beside ≡ Some c.in-Some-get.other.now =
    sym (looked_up c.get-2.result c.args.steps.now c.args.change.beside c.get-2.ensures.lookup.0 c.get-2.ensures.lookup.1) ∙ ap option_copied c.in-Some-get.is in
    is_lost c.args.steps.now c.args.change c.in-Some.kept.now c.in-Some-get.other.now _ at by c.in-Lost.is c.if-place-beside.true (c.is_delivery.ensures ∙ ap (λ (k : Kept). is_delivery k.step) c.kept.view_is)

pub returns-then-place-beside-2 : goal.returns-then-place-beside-2
returns-then-place-beside-2 g c =
    let at : slice_get c.args.steps.now c.args.change.place ≡ Some c.in-Some.kept.now =
    sym (looked_up c.get.result c.args.steps.now c.args.change.place c.get.ensures.lookup.0 c.get.ensures.lookup.1) ∙ ap option_copied c.in-Some.is in
    let by : slice_get c.args.steps.now c.args.change.beside ≡ Some c.in-Some-get.other.now =
    sym (looked_up c.get-2.result c.args.steps.now c.args.change.beside c.get-2.ensures.lookup.0 c.get-2.ensures.lookup.1) ∙ ap option_copied c.in-Some-get.is in
    is_never c.args.steps.now c.args.change c.in-Some.kept.now c.in-Some-get.other.now _ at by c.in-Never.is c.if-place-beside-2.true (c.is_notice.ensures ∙ ap (λ (k : Kept). is_notice k.step) c.kept.view_is)

pub returns-then-beside-place : goal.returns-then-beside-place
returns-then-beside-place g c =
    let at : slice_get c.args.steps.now c.args.change.place ≡ Some c.in-Some.kept.now =
    sym (looked_up c.get.result c.args.steps.now c.args.change.place c.get.ensures.lookup.0 c.get.ensures.lookup.1) ∙ ap option_copied c.in-Some.is in
    let by : slice_get c.args.steps.now c.args.change.beside ≡ Some c.in-Some-get.other.now =
    sym (looked_up c.get-2.result c.args.steps.now c.args.change.beside c.get-2.ensures.lookup.0 c.get-2.ensures.lookup.1) ∙ ap option_copied c.in-Some-get.is in
    is_before c.args.steps.now c.args.change c.in-Some.kept.now c.in-Some-get.other.now _ at by c.in-Before.is (ap (λ (k : Kept). k.node) (sym c.kept.view_is) ∙ c.if-beside-place.true.0 ∙ ap (λ (k : Kept). k.node) c.other.view_is) c.if-beside-place.true.1 c.may_pass.ensures

pub returns-then-place-beside-3 : goal.returns-then-place-beside-3
returns-then-place-beside-3 g c =
    let at : slice_get c.args.steps.now c.args.change.place ≡ Some c.in-Some.kept.now =
    sym (looked_up c.get.result c.args.steps.now c.args.change.place c.get.ensures.lookup.0 c.get.ensures.lookup.1) ∙ ap option_copied c.in-Some.is in
    let by : slice_get c.args.steps.now c.args.change.beside ≡ Some c.in-Some-get.other.now =
    sym (looked_up c.get-2.result c.args.steps.now c.args.change.beside c.get-2.ensures.lookup.0 c.get-2.ensures.lookup.1) ∙ ap option_copied c.in-Some-get.is in
    is_behind c.args.steps.now c.args.change c.in-Some.kept.now c.in-Some-get.other.now _ at by c.in-Behind.is (ap (λ (k : Kept). k.node) (sym c.kept.view_is) ∙ c.if-place-beside-3.true.0 ∙ ap (λ (k : Kept). k.node) c.other.view_is) c.if-place-beside-3.true.1 c.may_pass-then-place-beside-3.ensures

pub returns-then-place-beside-4 : goal.returns-then-place-beside-4
returns-then-place-beside-4 g c =
    let at : slice_get c.args.steps.now c.args.change.place ≡ Some c.in-Some.kept.now =
    sym (looked_up c.get.result c.args.steps.now c.args.change.place c.get.ensures.lookup.0 c.get.ensures.lookup.1) ∙ ap option_copied c.in-Some.is in
    let by : slice_get c.args.steps.now c.args.change.beside ≡ Some c.in-Some-get.other.now =
    sym (looked_up c.get-2.result c.args.steps.now c.args.change.beside c.get-2.ensures.lookup.0 c.get-2.ensures.lookup.1) ∙ ap option_copied c.in-Some-get.is in
    is_again c.args.steps.now c.args.change c.in-Some.kept.now c.in-Some-get.other.now _ at by c.in-Again.is (ap (λ (k : Kept). k.node) (sym c.kept.view_is) ∙ c.if-place-beside-4.true.0 ∙ ap (λ (k : Kept). k.node) c.other.view_is) c.if-place-beside-4.true.1 (c.is_delivery-then-place-beside-4.ensures ∙ ap (λ (k : Kept). is_delivery k.step) c.kept.view_is)
