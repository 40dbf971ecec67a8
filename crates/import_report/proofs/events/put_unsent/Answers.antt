use Rattle.std.proofs.Common.{◌∙◌, append_assoc}
use Rattle.import_report.proofs.events.put_unsent.Goals as goal

pub returns : goal.returns
returns g c = c.in_ok-writeln.ensures.bytes ∙ simp append_assoc
