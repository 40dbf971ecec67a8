use Rattle.std.proofs.Common.{◌≡◌, map, take}
use Rattle.std.specs.List.{AllByRecursion}
use Rattle.serde_json.specs.View.{view}
use Rattle.event_core.specs.Format.{event_json}
use Rattle.event_core.specs.Told.{IsEvent}
use Rattle.session_core.proofs.saving.events_value.Given as goal

-- the values so far are those of the front, whose events can be told
abbrev pub invariant-loop-place : goal.invariant-loop-place
invariant-loop-place g l = record {
  json : map view l.values.items ≡ map event_json (take l.place l.history);
  told : AllByRecursion IsEvent (take l.place l.history);
}
