use Rattle.std.proofs.Common.{◌≡◌, None, length}
use Rattle.journal_core.specs.Holdings.{kepts}
use Rattle.explain_core.specs.Findings.{last_status}
use Rattle.explain_core.proofs.finding.last_status.Given as goal

-- the last so far, and then that of the steps to come
abbrev pub invariant-loop-kept : goal.invariant-loop-kept
invariant-loop-kept g l = last_status l.last l.steps l.node l.name ≡ last_status None (kepts l.journal.steps) l.node l.name

abbrev pub decreases-loop-kept : goal.decreases-loop-kept
decreases-loop-kept g l = length l.steps
