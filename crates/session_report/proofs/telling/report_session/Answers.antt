use Rattle.std.proofs.Common.{◌≡◌, ◌++◌, map, string_bytes, subst, ap, ◌∙◌, rules}
use Rattle.std.proofs.lemmas.Result.{err_from_is_err_and}
use Rattle.bench_core.specs.Machine.{Machine}
use Rattle.run_core.specs.Report.{call_of, commands_text}
use Rattle.recording_core.specs.Decoding.{Parts}
use Rattle.recording_core.specs.Sessions.{Faults, Reads}
use Rattle.recording_core.specs.Versions.{number_of}
use Rattle.session_core.proofs.Recorded.{fault_back, refused_back, refuses, saved_back, session_of}
use Rattle.session_report.proofs.Kept.{report_is}
use Rattle.session_report.proofs.telling.report_session.Goals as goal

pub returns-in_err-recording-clause-comes_back : goal.returns-in_err-recording-clause-comes_back
returns-in_err-recording-clause-comes_back g c =
    let fault = err_from_is_err_and c.from_residual.result c.from_residual.ensures.1 in
    rw (fault.1, fault.2) (λ m saved. refused_back c.args.bytes.now m saved c.in_err-recording.field-0.0 c.in_err-recording.ensures.refused)

pub returns-in-Err-clause-refused : goal.returns-in-Err-clause-refused
returns-in-Err-clause-refused g c =
    let r = c.in_ok-recording.recording in
    let p : Parts = record { limits = r.limits; names = r.names } in
    let v = number_of r.version in
    refuses c.args.bytes.now v p r.acts.events.items r.acts.is_cut c.in_ok-recording.ensures.recording c.in-Err.fault
    (λ ds are. subst (λ (m : Machine). Faults v 1 m ds c.in-Err.fault) c.in-Ok.ensures (c.in-Err.ensures.err ds are))

pub returns-in-Err-clause-comes_back : goal.returns-in-Err-clause-comes_back
returns-in-Err-clause-comes_back g c =
    let r = c.in_ok-recording.recording in
    let p : Parts = record { limits = r.limits; names = r.names } in
    let v = number_of r.version in
    fault_back c.args.bytes.now v p r.acts.events.items r.acts.is_cut c.in_ok-recording.ensures.recording c.in-Err.fault
    (λ ds are. subst (λ (m : Machine). Faults v 1 m ds c.in-Err.fault) c.in-Ok.ensures (c.in-Err.ensures.err ds are))

pub returns-clause-session : goal.returns-clause-session
returns-clause-session g c =
    let r = c.in_ok-recording.recording in
    let p : Parts = record { limits = r.limits; names = r.names } in
    let v = number_of r.version in
    let new = c.tell_events-told.new.bench in
    session_of c.args.bytes.now v p r.acts.events.items r.acts.is_cut c.in_ok-recording.ensures.recording new
    (λ ds are. subst (λ (m : Machine). Reads v m ds new) c.in-Ok.ensures (c.in_default-told.ensures.ok ds are))

pub returns-clause-report : goal.returns-clause-report
returns-clause-report g c =
    let r = c.in_ok-recording.recording in
    let p : Parts = record { limits = r.limits; names = r.names } in
    let v = number_of r.version in
    let new = c.tell_events-told.new.bench in
    let events = r.acts.events.items in
    let text : c.into_bytes.result.items ≡ string_bytes c.tell_events-told.new.text = search rules in
    report_is c.args.bytes.now v p events r.acts.is_cut c.in_ok-recording.ensures.recording new
    (λ ds are. subst (λ (m : Machine). Reads v m ds new) c.in-Ok.ensures (c.in_default-told.ensures.ok ds are)) c.into_bytes.result.items
    (text ∙ c.in_default-told.ensures.text ∙ ap (λ t. t ++ commands_text c.in-Ok.bench (map call_of events)) c.new-text.ensures.bytes
    ∙ ap (λ (m : Machine). commands_text m (map call_of events)) c.in-Ok.ensures)

pub returns-clause-comes_back : goal.returns-clause-comes_back
returns-clause-comes_back g c =
    let r = c.in_ok-recording.recording in
    let p : Parts = record { limits = r.limits; names = r.names } in
    let v = number_of r.version in
    let new = c.tell_events-told.new.bench in
    saved_back c.args.bytes.now v p r.acts.events.items r.acts.is_cut c.in_ok-recording.ensures.recording new
    (λ ds are. subst (λ (m : Machine). Reads v m ds new) c.in-Ok.ensures (c.in_default-told.ensures.ok ds are))
