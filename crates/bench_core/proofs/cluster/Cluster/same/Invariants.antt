use Rattle.std.proofs.Common.{◌≡◌, take}
use Rattle.bench_core.proofs.cluster.Cluster.same.Given as goal

-- no difference so far
abbrev pub invariant-loop-number : goal.invariant-loop-number
invariant-loop-number g l = take l.number l.self ≡ take l.number l.other
