use Rattle.std.proofs.Common.{◌≡◌, drop, nat_le}
use Rattle.network_rules.specs.Turns.{extra}
use Rattle.network_rules.proofs.next.few_extra.Given as goal

-- what is left to count decides
abbrev pub invariant-loop-place : goal.invariant-loop-place
invariant-loop-place l = nat_le (extra (drop l.place l.turns) l.counts l.place) l.left ≡ nat_le (extra l.turns l.counts 0) l.most
