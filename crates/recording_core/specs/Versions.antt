-- The versions of a session's text. Version 1 has no requests and no answers, and neither of the refusals `NotRequest` and `IsRequest`.
use Rattle.std.specs.Prelude.{◌≡◌, ◌⊎◌, ◌==◌, ◌&&◌, ℕ, Bool, true, false, if◌then◌else◌, Option}
use Rattle.serde_json.specs.Data.{Data}
use Rattle.node_core.specs.Operations.{Operation, Request, Answer}
use Rattle.bench_core.specs.declared.reply.Reply.{Reply}
use Rattle.bench_core.specs.declared.reply.Reply.TheVariants.{Refused}
use Rattle.bench_core.specs.declared.fault.Fault.{Fault}
use Rattle.bench_core.specs.declared.fault.Fault.TheVariants.{NotRequest, IsRequest}
use Rattle.bench_core.specs.Acts.{Action, Do}
use Rattle.bench_core.specs.Machine.{Event}
use Rattle.recording_core.specs.declared.version.Version.{Version}
use Rattle.recording_core.specs.declared.version.Version.TheVariants.{First, Second}
use Rattle.event_core.specs.Decoding.{◌>>=◌, kept_if, event_at}

-- the versions that are read
abbrev pub IsVersion : ℕ → Type 0
IsVersion version = (version ≡ 1) ⊎ (version ≡ 2)

abbrev pub number_of : Version → ℕ
number_of First = 1
number_of Second = 2

-- whether the step is neither a request nor an answer
abbrev pub is_first_step : Operation → Bool
is_first_step Request = false
is_first_step (Answer sender number) = false
is_first_step _ = true

abbrev pub is_first_action : Action → Bool
is_first_action (Do operation) = is_first_step operation
is_first_action _ = true

abbrev pub is_first_fault : Fault → Bool
is_first_fault NotRequest = false
is_first_fault IsRequest = false
is_first_fault _ = true

abbrev pub is_first_reply : Reply → Bool
is_first_reply (Refused fault) = is_first_fault fault
is_first_reply _ = true

-- whether a text of this version can have the event
abbrev pub tells : ℕ → Event → Bool
tells version e = if version == 1 then is_first_action e.act && is_first_reply e.reply else true

-- the event that an act of a text of this version stands for
abbrev pub event_in : ℕ → Data → Option Event
event_in version d = event_at d >>= λ e. kept_if (tells version e) e
