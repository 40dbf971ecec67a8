use Rattle.std.proofs.Common.{◌≡◌, ◌≤◌, [], take, length}
use Rattle.explain_core.specs.Findings.{backwards}
use Rattle.explain_core.proofs.finding.chain.Given as goal

-- what is left to go back over, from what was found so far
abbrev pub invariant-loop-left : goal.invariant-loop-left
invariant-loop-left g l = record {
  within : l.left ≤ length l.hops;
  same : backwards (l.target, l.numbers.items) (take l.left l.hops) ≡ backwards (l.fn.by, []) l.hops;
}

abbrev pub decreases-loop-left : goal.decreases-loop-left
decreases-loop-left g l = l.left
