use Rattle.std.proofs.Common.{sym, subst, ap, ◌∙◌, option_map, Some, None, Err, IfErr}
use Rattle.std.proofs.lemmas.Result.{err_from_is_err_and}
use Rattle.serde_json.specs.View.{view}
use Rattle.log_core.specs.Lines.{IsValueOf, Says}
use Rattle.log_core.specs.Views.{line as shown_line}
use Rattle.import_core.specs.Faults.{IsWrong}
use Rattle.import_core.specs.Sights.{SeesValues, pids_of, words_of}
use Rattle.import_core.specs.Tables.{all_of}
use Rattle.import_core.specs.Seen.{names_if, with_texts}
use Rattle.import_core.proofs.FirstSights.{said_is}
use Rattle.import_core.proofs.Sights.{no_values}
use Rattle.import_core.proofs.NotedLines.{wrong_note}
use Rattle.import_core.proofs.notes.note_of_line.Goals as goal

pub returns-in_err-note-clause-wrong : goal.returns-in_err-note-clause-wrong
returns-in_err-note-clause-wrong g c =
    let nodes = c.args.tables.now.nodes in
    let p = err_from_is_err_and c.from_residual-in_err-note.result c.from_residual-in_err-note.ensures.1 in
    let says : Says c.args.line.now (Some (shown_line c.in-Some-line_at.event)) =
    (view c.in-Some.value, subst (λ o. IsValueOf c.args.line.now (option_map view o)) c.in-Some.is c.in_ok-value.ensures.ok, sym c.in-Some-line_at.ensures) in
    subst (λ r. IfErr r (IsWrong nodes c.args.line.now)) (sym p.1)
    (subst (λ kind. IsWrong nodes c.args.line.now kind) (sym p.2)
    (wrong_note nodes c.args.line.now (shown_line c.in-Some-line_at.event) c.in_err-note.field-0.0 says (λ e. c.in_err-note.ensures.many (ap (λ f. Err f) e))))

pub returns-clause-note : goal.returns-clause-note
returns-clause-note g c = (
  shown_line c.in-Some-line_at.event,
  (view c.in-Some.value, subst (λ o. IsValueOf c.args.line.now (option_map view o)) c.in-Some.is c.in_ok-value.ensures.ok, sym c.in-Some-line_at.ensures),
  c.in_ok-note.ensures.note,
)

pub returns-clause-seen : goal.returns-clause-seen
returns-clause-seen g c =
    let says : Says c.args.line.now (Some (shown_line c.in-Some-line_at.event)) =
    (view c.in-Some.value, subst (λ o. IsValueOf c.args.line.now (option_map view o)) c.in-Some.is c.in_ok-value.ensures.ok, sym c.in-Some-line_at.ensures) in
    c.in_ok-note.ensures.seen ∙ ap (λ o. with_texts c.args.tables.now.nodes (names_if o)) (sym (said_is c.args.line.now (Some (shown_line c.in-Some-line_at.event)) says))

pub returns-in_default-clause-seen : goal.returns-in_default-clause-seen
returns-in_default-clause-seen g c =
    let says : Says c.args.line.now None = subst (λ o. IsValueOf c.args.line.now (option_map view o)) c.in_default.is c.in_ok-value.ensures.ok in
    sym (ap (λ o. with_texts c.args.tables.now.nodes (names_if o)) (said_is c.args.line.now None says))

pub returns-clause-values : goal.returns-clause-values
returns-clause-values g c =
    let says : Says c.args.line.now (Some (shown_line c.in-Some-line_at.event)) =
    (view c.in-Some.value, subst (λ o. IsValueOf c.args.line.now (option_map view o)) c.in-Some.is c.in_ok-value.ensures.ok, sym c.in-Some-line_at.ensures) in
    subst (λ o. SeesValues (all_of c.args.tables.now) (all_of c.note_of_event.new.tables) (pids_of o) (words_of o))
    (sym (said_is c.args.line.now (Some (shown_line c.in-Some-line_at.event)) says)) c.in_ok-note.ensures.values

pub returns-in_default-clause-values : goal.returns-in_default-clause-values
returns-in_default-clause-values g c =
    let says : Says c.args.line.now None = subst (λ o. IsValueOf c.args.line.now (option_map view o)) c.in_default.is c.in_ok-value.ensures.ok in
    subst (λ o. SeesValues (all_of c.args.tables.now) (all_of c.args.tables.now) (pids_of o) (words_of o)) (sym (said_is c.args.line.now None says))
    (no_values (all_of c.args.tables.now))
