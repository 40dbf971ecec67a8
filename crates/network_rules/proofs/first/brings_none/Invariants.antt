use Rattle.std.proofs.Common.{◌≡◌, ◌<◌, ◌==◌, ℕ, true, false, slice_get, Some}
use Rattle.std.specs.FinSet.{contains}
use Rattle.dots_core.specs.declared.dot.Dot.{Dot}
use Rattle.network_rules.proofs.first.brings_none.Given as goal

-- the dots so far
abbrev pub invariant-loop-place : goal.invariant-loop-place
invariant-loop-place g l =
    (i : ℕ) → i < l.place → (d : Dot) → slice_get l.dots i ≡ Some d → (d.name == l.own) ≡ false → contains l.names d.name ≡ true → contains l.message.seen d ≡ false
