use Rattle.std.proofs.Common.{◌≡◌, drop, nat_le}
use Rattle.network_rules.specs.Turns.{missing}
use Rattle.network_rules.proofs.next.few_missing.Given as goal

-- what is left to count decides
abbrev pub invariant-loop-place : goal.invariant-loop-place
invariant-loop-place l = nat_le (missing (drop l.place l.turns) l.counts l.place) l.left ≡ nat_le (missing l.turns l.counts 0) l.most
