use Rattle.std.proofs.Common.{◌∷◌, [], inr}
use Rattle.recording_core.proofs.Scanned.{cut_off}
use Rattle.recording_core.proofs.scan.without_line_feed.Goals as goal

pub returns-in-Some : goal.returns-in-Some
returns-in-Some c = inr (cut_off c.args.text.now (10 ∷ []) c.in-Some.line.now c.in-Some.ensures.cases)
