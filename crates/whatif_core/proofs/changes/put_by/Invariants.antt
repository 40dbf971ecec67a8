use Rattle.std.proofs.Common.{◌≡◌, ◌++◌}
use Rattle.change_core.specs.Changes.{changes_within}
use Rattle.whatif_core.proofs.changes.put_by.Given as goal

-- those that are less far off
abbrev pub invariant-loop-distance : goal.invariant-loop-distance
invariant-loop-distance g l = l.found.items ≡ l.fn.found.items ++ changes_within l.steps l.kind l.fn.place l.distance
