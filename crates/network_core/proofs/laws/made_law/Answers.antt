use Rattle.network_core.proofs.Made.{fresh_holds, made_holds, wanted_holds}
use Rattle.network_core.proofs.laws.made_law.Goals as goal

pub returns-clause-made : goal.returns-clause-made
returns-clause-made c = made_holds

pub returns-clause-wanted : goal.returns-clause-wanted
returns-clause-wanted c = wanted_holds

pub returns-clause-fresh : goal.returns-clause-fresh
returns-clause-fresh c = fresh_holds
