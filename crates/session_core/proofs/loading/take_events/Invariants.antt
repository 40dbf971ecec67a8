use Rattle.std.proofs.Common.{◌+◌, List, drop}
use Rattle.serde_json.specs.Data.{Data}
use Rattle.recording_core.specs.Drafts.{AreRead}
use Rattle.recording_core.specs.Versions.{number_of}
use Rattle.recording_core.proofs.Loops.{Goes}
use Rattle.session_core.proofs.loading.take_events.Given as goal

-- what is left, asked of the bench as it is, makes of all what it makes
abbrev pub invariant-loop-place : goal.invariant-loop-place
invariant-loop-place g l = (ds : List Data) → AreRead ds l.fn.acts.events.items l.fn.acts.is_cut →
    (rest : List Data) × AreRead rest (drop l.place l.fn.acts.events.items) l.fn.acts.is_cut × Goes (number_of l.fn.version) (l.place + 1) l.bench rest l.fn.bench ds
