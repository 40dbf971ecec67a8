use Rattle.std.proofs.Common.{map, length}
use Rattle.std.specs.Prelude.{IsUtf8}
use Rattle.std.specs.List.{AllByRecursion}
use Rattle.json_core.specs.Compact.{AreFirst}
use Rattle.event_core.specs.Format.{event_json}
use Rattle.event_core.specs.Told.{IsTold}
use Rattle.recording_core.proofs.scan.events_front.Given as goal

-- the events so far
abbrev pub invariant-events : goal.invariant-events
invariant-events g l =
    AreFirst l.initial.rest (map event_json l.events.items) l.comma l.rest × AllByRecursion IsTold l.events.items × IsUtf8 l.rest

abbrev pub decreases-events : goal.decreases-events
decreases-events g l = length l.rest
