-- A saved event is read as that event.
use Rattle.std.proofs.Common.{◌≡◌, List, [], ◌∷◌, true, Some, refl}
use Rattle.bench_core.specs.Machine.{Event}
use Rattle.event_core.specs.Format.{event_json}
use Rattle.event_core.specs.Told.{IsTold}
use Rattle.recording_core.specs.Versions.{tells, event_in}
use Rattle.recording_core.proofs.Versions.{told_event}
use Rattle.std.specs.List.{AllByRecursion}
use Rattle.event_core.proofs.Again.{event_again}

-- a text of the second version can tell every event
pub all_told : (events : List Event) → AllByRecursion (λ e. tells 2 e ≡ true) events
all_told [] = tt
all_told (e ∷ es) = (refl, all_told es)

pub event_in_again : (e : Event) → IsTold e → event_in 2 (event_json e) ≡ Some e
event_in_again e told = told_event 2 (event_json e) e (event_again e told) refl
