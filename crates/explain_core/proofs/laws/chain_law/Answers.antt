use Rattle.explain_core.proofs.Lawful.{chain_holds}
use Rattle.explain_core.proofs.laws.chain_law.Goals as goal

pub returns : goal.returns
returns c = chain_holds
