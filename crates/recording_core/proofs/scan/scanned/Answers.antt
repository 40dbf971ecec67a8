use Rattle.std.proofs.Common.{◌≡◌, false, rules, subst, sym}
use Rattle.std.specs.Prelude.{IfOk}
use Rattle.std.proofs.lemmas.Result.{IfOk-weaker}
use Rattle.recording_core.specs.Recordings.{IsRecording}
use Rattle.recording_core.specs.Scanned.{IsCompact}
use Rattle.recording_core.specs.Versions.{number_of}
use Rattle.recording_core.proofs.Scanned.{recorded}
use Rattle.recording_core.proofs.Versions.{is_version}
use Rattle.recording_core.proofs.scan.scanned.Goals as goal

pub returns : goal.returns
returns g c =
    let line = c.without_line_feed.result.now in
    let text = c.args.text.now in
    let both : IfOk c.scanned_line.result (λ r. IsCompact line (number_of r.version) (record { limits = r.limits; names = r.names }) r.acts.events.items
    × (r.acts.is_cut ≡ false)) = search (rules, c.scanned_line.ensures) in
    IfOk-weaker c.scanned_line.result _ _ (λ r h utf8.
    subst (IsRecording text (number_of r.version) (record { limits = r.limits; names = r.names }) r.acts.events.items) (sym h.1)
    (recorded line text (number_of r.version) (record { limits = r.limits; names = r.names }) r.acts.events.items h.0 c.without_line_feed.ensures
    (is_version r.version) utf8)) both
