use Rattle.whatif_core.proofs.AllChanges.{all_changes_hold}
use Rattle.whatif_core.proofs.Exact.{exact_holds, told_runs_hold}
use Rattle.whatif_core.proofs.laws.exact_law.Goals as goal

pub returns-clause-changes : goal.returns-clause-changes
returns-clause-changes c = all_changes_hold

pub returns-clause-exactly : goal.returns-clause-exactly
returns-clause-exactly c = exact_holds

pub returns-clause-told_runs : goal.returns-clause-told_runs
returns-clause-told_runs c = told_runs_hold
