use Rattle.std.proofs.Common.{◌≡◌, drop}
use Rattle.network_rules.specs.Turns.{is_whole}
use Rattle.network_rules.proofs.next.is_whole.Given as goal

-- what is left to look at decides
abbrev pub invariant-loop-place : goal.invariant-loop-place
invariant-loop-place l = is_whole (drop l.place l.turns) l.counts l.place ≡ is_whole l.turns l.counts 0
