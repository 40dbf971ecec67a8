use Rattle.std.proofs.Common.{Err}
use Rattle.std.proofs.lemmas.Result.{IfErr-weaker, IfOk-weaker}
use Rattle.recording_core.proofs.Replayed.{is_refused}
use Rattle.recording_core.proofs.recording.read_values.Goals as goal

pub returns-clause-recording : goal.returns-clause-recording
returns-clause-recording g c =
    let x = c.in_ok-draft.ensures.ok in
    IfOk-weaker c.recording_of.result _ _ (λ r h utf8. record { value = x.0; json = (utf8, x.1); tells = h x.0 x.2 }) c.recording_of.ensures.ok

pub returns-clause-refused : goal.returns-clause-refused
returns-clause-refused g c =
    let x = c.in_ok-draft.ensures.ok in
    IfErr-weaker c.recording_of.result _ _ (λ fault h utf8. is_refused c.args.text.now x.0 (Err fault) (utf8, x.1) (h x.0 x.2)) c.recording_of.ensures.err
