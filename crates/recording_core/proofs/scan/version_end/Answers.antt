use Rattle.std.proofs.Common.{rules, ◌≡◌, ◌∷◌, []}
use Rattle.recording_core.proofs.Scanned.{version_text}
use Rattle.recording_core.proofs.scan.version_end.Goals as goal

pub returns-in-Some-clause-text : goal.returns-in-Some-clause-text
returns-in-Some-clause-text c =
    let ends : c.in_ok-number.rest.now ≡ 125 ∷ [] = search rules in
    version_text c.args.text.now c.in_ok-behind.field-0.now c.in_ok-number.rest.now c.in_ok-number.number _
    c.in_ok-behind.ensures c.in_ok-number.ensures.0 ends c.in-Some.ensures
