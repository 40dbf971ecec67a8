use Rattle.std.proofs.Common.{◌≡◌, ◌<◌, ℕ, true, slice_get, Some}
use Rattle.std.specs.FinSet.{contains}
use Rattle.dots_core.specs.declared.dot.Dot.{Dot}
use Rattle.network_rules.proofs.cone.have_all.Given as goal

-- the dots so far
abbrev pub invariant-loop-place : goal.invariant-loop-place
invariant-loop-place l = (i : ℕ) → i < l.place → (d : Dot) → slice_get l.dots i ≡ Some d → contains l.names d.name ≡ true
