use Rattle.transcript_core.proofs.ReadRuns.{run_holds}
use Rattle.transcript_core.proofs.laws.run_law.Goals as goal

pub returns : goal.returns
returns c = run_holds
