-- A session has no float, and is not deep.
use Rattle.std.proofs.Common.{◌≡◌, ℕ, ◌≤◌, List, false, refl, arith}
use Rattle.serde_json.specs.Data.{depth, string}
use Rattle.serde_json.specs.Read.{max_depth}
use Rattle.serde_json.specs.Written.{has_float}
use Rattle.bench_core.specs.Limits.{Limits}
use Rattle.bench_core.specs.Machine.{Event}
use Rattle.bench_core.specs.NameList.{Texts}
use Rattle.event_core.specs.Format.{event_json}
use Rattle.recording_core.specs.Format.{session}
use Rattle.event_core.proofs.Shape.{depth_in, event_depth, event_no_float, no_float_in}

pub session_no_float : (version : ℕ) (names : Texts) (limits : Limits) (events : List Event) → has_float (session version names limits events) ≡ false
session_no_float version names limits events = rw (no_float_in event_json event_no_float events, no_float_in string (λ s. refl) names) refl

pub session_depth : (version : ℕ) (names : Texts) (limits : Limits) (events : List Event) → depth (session version names limits events) ≤ max_depth
session_depth version names limits events = omega (arith, depth_in event_json 3 event_depth events, depth_in string 0 (λ s. omega arith) names)
