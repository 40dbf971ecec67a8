use Rattle.std.proofs.Common.{ℕ, ◌<◌}
use Rattle.page_data.specs.Chains.{IsSentValid}
use Rattle.page_data.proofs.laws.sent_law.Given as goal

-- the nodes so far
abbrev pub invariant-loop-number : goal.invariant-loop-number
invariant-loop-number g l = (n : ℕ) → n < l.number → IsSentValid l.bench n
