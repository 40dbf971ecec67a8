use Rattle.std.proofs.Common.{◌≡◌, ◌++◌, ◌∷◌, [], Some, None, ap, sym, ◌∙◌, append-nil, slice_get}
use Rattle.std.specs.Option.{option_copied}
use Rattle.bench_core.proofs.Places.{looked_up}
use Rattle.journal_core.specs.Journals.{Kept}
use Rattle.change_core.specs.Marked.{with_step}
use Rattle.change_core.proofs.Played.{nothing_read}
use Rattle.change_core.proofs.steps.put_copy.Goals as goal

pub returns-in-None : goal.returns-in-None
returns-in-None g c =
    let none : slice_get c.args.steps.now c.args.place ≡ None = nothing_read c.args.steps.now c.args.place (sym c.in-None.ensures.lookup.0) in
    sym (append-nil c.args.copies.now.items) ∙ ap (λ o. c.args.copies.now.items ++ with_step o []) (sym none)

pub returns-in_ok-push-in-Some : goal.returns-in_ok-push-in-Some
returns-in_ok-push-in-Some g c =
    let some : slice_get c.args.steps.now c.args.place ≡ Some c.in-Some.kept.now =
    sym (looked_up c.get.result c.args.steps.now c.args.place c.get.ensures.lookup.0 c.get.ensures.lookup.1) ∙ ap option_copied c.in-Some.is in
    c.in_ok-push-in-Some.ensures.items
    ∙ ap (λ (k : Kept). c.args.copies.now.items ++ k ∷ []) c.in_ok-copy_of-in-Some.ensures
    ∙ ap (λ o. c.args.copies.now.items ++ with_step o []) (sym some)
