use Rattle.std.proofs.Common.{◌≡◌}
use Rattle.change_core.specs.Changes.{changes_to}
use Rattle.whatif_core.proofs.changes.changes.Given as goal

-- those of the first steps
abbrev pub invariant-loop-place : goal.invariant-loop-place
invariant-loop-place g l = l.found.items ≡ changes_to l.steps l.place
