use Rattle.run_core.proofs.Prompted.{prompt_holds}
use Rattle.run_core.proofs.laws.prompt_law.Goals as goal

pub returns : goal.returns
returns c = prompt_holds
