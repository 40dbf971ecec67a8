use Rattle.std.proofs.Common.{subst}
use Rattle.std.proofs.lemmas.Result.{err_from_is_err_and}
use Rattle.bench_core.specs.Machine.{Machine}
use Rattle.recording_core.specs.Decoding.{Parts}
use Rattle.recording_core.specs.Sessions.{Faults, Reads}
use Rattle.recording_core.specs.Versions.{number_of}
use Rattle.session_core.proofs.Recorded.{fault_back, refused_back, refuses, saved_back, session_of}
use Rattle.session_core.proofs.loading.load.Goals as goal

pub returns-in_err-version-clause-comes_back : goal.returns-in_err-version-clause-comes_back
returns-in_err-version-clause-comes_back g c =
    let fault = err_from_is_err_and c.from_residual.result c.from_residual.ensures.1 in
    rw (fault.1, fault.2) (λ m saved. refused_back c.args.bytes.now m saved c.in_err-version.field-0.0 c.in_err-version.ensures.refused)

pub returns-in-Err-clause-refused : goal.returns-in-Err-clause-refused
returns-in-Err-clause-refused g c =
    let r = c.in_ok-version.field-0 in
    let p : Parts = record { limits = r.limits; names = r.names } in
    let v = number_of r.version in
    refuses c.args.bytes.now v p r.acts.events.items r.acts.is_cut c.in_ok-version.ensures.recording c.in-Err.fault
    (λ ds are. subst (λ (m : Machine). Faults v 1 m ds c.in-Err.fault) c.in-Ok.ensures (c.in-Err.ensures.err ds are))

pub returns-in-Err-clause-comes_back : goal.returns-in-Err-clause-comes_back
returns-in-Err-clause-comes_back g c =
    let r = c.in_ok-version.field-0 in
    let p : Parts = record { limits = r.limits; names = r.names } in
    let v = number_of r.version in
    fault_back c.args.bytes.now v p r.acts.events.items r.acts.is_cut c.in_ok-version.ensures.recording c.in-Err.fault
    (λ ds are. subst (λ (m : Machine). Faults v 1 m ds c.in-Err.fault) c.in-Ok.ensures (c.in-Err.ensures.err ds are))

pub returns-clause-session : goal.returns-clause-session
returns-clause-session g c =
    let r = c.in_ok-version.field-0 in
    let p : Parts = record { limits = r.limits; names = r.names } in
    let v = number_of r.version in
    let new = c.take_events-taken.new.bench in
    session_of c.args.bytes.now v p r.acts.events.items r.acts.is_cut c.in_ok-version.ensures.recording new
    (λ ds are. subst (λ (m : Machine). Reads v m ds new) c.in-Ok.ensures (c.in_default-taken.ensures.ok ds are))

pub returns-clause-comes_back : goal.returns-clause-comes_back
returns-clause-comes_back g c =
    let r = c.in_ok-version.field-0 in
    let p : Parts = record { limits = r.limits; names = r.names } in
    let v = number_of r.version in
    let new = c.take_events-taken.new.bench in
    saved_back c.args.bytes.now v p r.acts.events.items r.acts.is_cut c.in_ok-version.ensures.recording new
    (λ ds are. subst (λ (m : Machine). Reads v m ds new) c.in-Ok.ensures (c.in_default-taken.ensures.ok ds are))
