use Rattle.std.proofs.Common.{◌≡◌, ◌++◌, [], option_map, refl, sym, ap, ◌∙◌, subst, append-nil, string_bytes}
use Rattle.std.proofs.lemmas.Result.{on_ok_weaker}
use Rattle.node_core.specs.Operations.{Operation, plain}
use Rattle.bench_core.specs.Machine.{Machine}
use Rattle.import_core.specs.Notes.{Note, note_of}
use Rattle.import_report.specs.Events.{Asked, asked_by, nothing, step, step_or_nothing}
use Rattle.import_page.specs.Entries.{IsAskedTold, unsent_text}
use Rattle.import_page.proofs.entries.put_told.Goals as goal

pub returns-in-Some-2-clause-told : goal.returns-in-Some-2-clause-told
returns-in-Some-2-clause-told g c =
    let m : Machine = c.args.bench.now in
    let numbers = c.args.numbers.now in
    let note : Note = note_of c.args.note.now in
    let operation : Operation = plain c.in-Some-2.step in
    let asks : asked_by numbers note.step ≡ step operation =
    ap (λ o. asked_by numbers (option_map plain o)) c.in-Some.is ∙ ap step_or_nothing (sym c.in_ok-step.ensures ∙ ap (option_map plain) c.in-Some-2.is) in
    on_ok_weaker c.ask.result
    (λ e. (
      [],
      sym (append-nil (string_bytes c.args.text.now)),
      subst (λ (a : Asked). IsAskedTold m note a []) (sym asks) refl,
    ))
    c.ask.ensures.bench

pub returns-in-None-clause-told : goal.returns-in-None-clause-told
returns-in-None-clause-told g c =
    let m : Machine = c.args.bench.now in
    let numbers = c.args.numbers.now in
    let note : Note = note_of c.args.note.now in
    let asks : asked_by numbers note.step ≡ nothing =
    ap (λ o. asked_by numbers (option_map plain o)) c.in-Some.is ∙ ap step_or_nothing (sym c.in_ok-step.ensures ∙ ap (option_map plain) c.in-None.is) in
    on_ok_weaker c.put_unsent.result
    (λ e. (
      unsent_text note.logged.node,
      e,
      subst (λ (a : Asked). IsAskedTold m note a (unsent_text note.logged.node)) (sym asks) refl,
    ))
    c.put_unsent.ensures
