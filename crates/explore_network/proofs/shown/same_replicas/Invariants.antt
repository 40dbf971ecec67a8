use Rattle.std.proofs.Common.{◌≡◌, ◌<◌, ℕ, slice_get}
use Rattle.explore_network.specs.Questions.{replicas_in}
use Rattle.explore_network.proofs.shown.same_replicas.Given as goal

-- those of the first numbers are the same
abbrev pub invariant-loop-number : goal.invariant-loop-number
invariant-loop-number g l = (n : ℕ) → n < l.number → replicas_in (slice_get l.one n) ≡ replicas_in (slice_get l.other n)
