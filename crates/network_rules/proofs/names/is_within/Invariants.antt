use Rattle.std.proofs.Common.{◌≡◌, ◌<◌, ℕ, true}
use Rattle.std.specs.FinSet.{contains}
use Rattle.network_rules.proofs.names.is_within.Given as goal

abbrev pub invariant-loop-name : goal.invariant-loop-name
invariant-loop-name l = (n : ℕ) → n < l.name → contains l.one n ≡ true → contains l.other n ≡ true
