use Rattle.std.proofs.Common.{◌≡◌, ◌++◌, [], option_map, refl, sym, ap, ◌∙◌, subst, append-nil, string_bytes}
use Rattle.std.proofs.lemmas.Result.{on_ok_weaker}
use Rattle.node_core.specs.Operations.{Operation, plain}
use Rattle.bench_core.specs.Acts.{Do}
use Rattle.bench_core.specs.Machine.{Machine}
use Rattle.report_core.specs.ActTexts.{reply_of}
use Rattle.import_core.specs.Notes.{Note, note_of}
use Rattle.import_report.specs.Checks.{IsAskedChecked, IsEventChecked, refusal_text, unsent_text}
use Rattle.import_report.specs.Events.{Asked, asked_by, nothing, step, step_or_nothing}
use Rattle.import_report.proofs.checks.check_event.Goals as goal

pub returns-in-Some-2-clause-told : goal.returns-in-Some-2-clause-told
unfolding IsEventChecked
returns-in-Some-2-clause-told g c =
    let m : Machine = c.args.bench.now in
    let numbers = c.args.numbers.now in
    let note : Note = note_of c.args.note.now in
    let operation : Operation = plain c.in-Some-2.step in
    let asks : asked_by numbers note.step ≡ step operation =
    ap (λ o. asked_by numbers (option_map plain o)) c.in-Some.is ∙ ap step_or_nothing (sym c.in_ok-step.ensures ∙ ap (option_map plain) c.in-Some-2.is) in
    on_ok_weaker c.check_step.result
    (λ e. (
      [],
      refusal_text m.names note (reply_of m note.logged.node (Do operation)),
      sym (append-nil c.args.agreements.now.items),
      e,
      subst (λ (a : Asked). IsAskedChecked m.names m note a [] (refusal_text m.names note (reply_of m note.logged.node (Do operation)))) (sym asks) (refl, refl),
    ))
    c.check_step.ensures.text

pub returns-in-None-clause-told : goal.returns-in-None-clause-told
unfolding IsEventChecked
returns-in-None-clause-told g c =
    let m : Machine = c.args.bench.now in
    let numbers = c.args.numbers.now in
    let note : Note = note_of c.args.note.now in
    let asks : asked_by numbers note.step ≡ nothing =
    ap (λ o. asked_by numbers (option_map plain o)) c.in-Some.is ∙ ap step_or_nothing (sym c.in_ok-step.ensures ∙ ap (option_map plain) c.in-None.is) in
    on_ok_weaker c.put_unsent.result
    (λ e. (
      [],
      unsent_text m.names note,
      sym (append-nil c.args.agreements.now.items),
      e ∙ ap (λ ns. string_bytes c.args.text.now ++ unsent_text ns note) c.names.ensures,
      subst (λ (a : Asked). IsAskedChecked m.names m note a [] (unsent_text m.names note)) (sym asks) (refl, refl),
    ))
    c.put_unsent.ensures
