use Rattle.transcript_core.proofs.ReadScripts.{script_holds}
use Rattle.transcript_core.proofs.laws.script_law.Goals as goal

pub returns : goal.returns
returns c = script_holds
