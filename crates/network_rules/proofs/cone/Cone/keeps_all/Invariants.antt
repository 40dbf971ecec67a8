use Rattle.std.proofs.Common.{◌≡◌, ◌<◌, ℕ, slice_get, Some}
use Rattle.journal_core.specs.Journals.{Kept}
use Rattle.network_rules.specs.declared.turn.Rank.{Rank}
use Rattle.network_rules.specs.Tables.{KeepsAt}
use Rattle.network_rules.proofs.cone.Cone.keeps_all.Given as goal

-- so far
abbrev pub invariant-loop-place : goal.invariant-loop-place
invariant-loop-place g l = (i : ℕ) → i < l.place → (k : Kept) (x : Rank) → slice_get l.steps i ≡ Some k → slice_get l.ranks i ≡ Some x → KeepsAt l.self k x
