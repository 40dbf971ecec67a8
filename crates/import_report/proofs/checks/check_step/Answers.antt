use Rattle.std.proofs.Common.{◌≡◌, ◌++◌, ap, ◌∙◌, string_bytes}
use Rattle.std.proofs.lemmas.Result.{on_ok_weaker}
use Rattle.bench_core.specs.Machine.{Machine}
use Rattle.bench_core.specs.NameList.{Texts}
use Rattle.import_core.specs.Notes.{Note, note_of}
use Rattle.import_report.specs.Checks.{refusal_text}
use Rattle.report_core.specs.ActTexts.{after_act}
use Rattle.import_report.proofs.checks.check_step.Goals as goal

-- the names are those before the step
pub returns-clause-text : goal.returns-clause-text
unfolding after_act
returns-clause-text g c =
    let note : Note = note_of c.args.note.now in
    let before = string_bytes c.args.text.now in
    let names : c.names.result.now ≡ c.args.bench.now.names = c.names.ensures ∙ ap (λ (b : Machine). b.names) c.in_ok-played.ensures.bench in
    on_ok_weaker c.put_refusal.result
    (λ e. e ∙ ap (λ (ns : Texts). before ++ refusal_text ns note c.in_ok-played.field-0) names
    ∙ ap (λ r. before ++ refusal_text c.args.bench.now.names note r) c.in_ok-played.ensures.reply)
    c.put_refusal.ensures
