use Rattle.std.proofs.Common.{◌≡◌, map, take}
use Rattle.serde_json.specs.View.{view}
use Rattle.serde_json.specs.Data.{string}
use Rattle.session_core.proofs.saving.nodes_value.Given as goal

-- the values so far are those of the front
abbrev pub invariant-loop-number : goal.invariant-loop-number
invariant-loop-number g l = map view l.values.items ≡ map string (take l.number l.names)
