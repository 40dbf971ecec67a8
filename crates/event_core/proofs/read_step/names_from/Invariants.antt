use Rattle.std.proofs.Common.{◌≡◌, drop}
use Rattle.std.specs.FinSet as set
use Rattle.serde_json.specs.View.{items_view}
use Rattle.event_core.specs.Decoding.{names_from}
use Rattle.event_core.proofs.read_step.names_from.Given as goal

-- what is left, read into the names so far, gives what all gives
abbrev pub invariant-loop-value : goal.invariant-loop-value
invariant-loop-value l = names_from l.least l.names (items_view (drop l.value-index l.values)) ≡ names_from 0 set.empty (items_view l.values)
