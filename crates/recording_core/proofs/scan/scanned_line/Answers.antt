use Rattle.recording_core.specs.Versions.{number_of}
use Rattle.recording_core.proofs.Scanned.{compact}
use Rattle.recording_core.proofs.scan.scanned_line.Goals as goal

pub returns-in-Ok-clause-compact : goal.returns-in-Ok-clause-compact
returns-in-Ok-clause-compact g c =
    let end = c.in-Ok.end in
    compact c.args.text.now c.in_ok-behind.field-0.now c.in_ok-events.behind_events.now end.limits end.names (number_of end.version)
    c.in_ok-events.events.items c.in_ok-behind.ensures c.in_ok-events.ensures.front c.in_ok-events.ensures.told c.in-Ok.ensures
