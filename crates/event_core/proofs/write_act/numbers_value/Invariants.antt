use Rattle.std.proofs.Common.{◌≡◌, map, take}
use Rattle.serde_json.specs.View.{view}
use Rattle.event_core.specs.Format.{whole}
use Rattle.event_core.proofs.write_act.numbers_value.Given as goal

-- the values so far are those of the front
abbrev pub invariant-loop-number : goal.invariant-loop-number
invariant-loop-number l = map view l.values.items ≡ map whole (take l.number-index l.numbers)
