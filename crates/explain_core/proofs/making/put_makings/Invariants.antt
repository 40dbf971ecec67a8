use Rattle.std.proofs.Common.{◌≡◌, ◌++◌, length}
use Rattle.journal_core.specs.Holdings.{kepts}
use Rattle.explain_core.specs.Makings.{makings_from}
use Rattle.explain_core.proofs.making.put_makings.Given as goal

-- what was made so far, and then what the steps to come make
abbrev pub invariant-loop-kept : goal.invariant-loop-kept
invariant-loop-kept g l =
    l.makings.items ++ makings_from l.topic l.key l.asked l.steps
    ≡ l.fn.makings.items ++ makings_from l.topic l.key l.fn.asked (kepts l.journal.steps)

abbrev pub decreases-loop-kept : goal.decreases-loop-kept
decreases-loop-kept g l = length l.steps
