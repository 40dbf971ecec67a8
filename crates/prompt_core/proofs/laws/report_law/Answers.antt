use Rattle.prompt_core.proofs.Printed.{script_responded}
use Rattle.prompt_core.proofs.laws.report_law.Goals as goal

pub returns : goal.returns
returns c = script_responded c.prompt_law.ensures
