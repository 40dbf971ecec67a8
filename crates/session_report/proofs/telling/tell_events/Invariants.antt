use Rattle.std.proofs.Common.{◌≡◌, ◌+◌, ◌++◌, List, drop, map, string_bytes}
use Rattle.serde_json.specs.Data.{Data}
use Rattle.run_core.specs.Report.{call_of, commands_text}
use Rattle.recording_core.specs.Drafts.{AreRead}
use Rattle.recording_core.specs.Versions.{number_of}
use Rattle.recording_core.proofs.Loops.{Goes}
use Rattle.session_report.proofs.telling.tell_events.Given as goal

-- what is left, asked of the bench as it is, makes of all what it makes; and printed behind the text, it gives the text of all
abbrev pub invariant-loop-place : goal.invariant-loop-place
invariant-loop-place g l =
    ((ds : List Data) → AreRead ds l.fn.acts.events.items l.fn.acts.is_cut →
    (rest : List Data) × AreRead rest (drop l.place l.fn.acts.events.items) l.fn.acts.is_cut × Goes (number_of l.fn.version) (l.place + 1) l.bench rest l.fn.bench ds)
    × (string_bytes l.text ++ commands_text l.bench (map call_of (drop l.place l.fn.acts.events.items)) ≡ string_bytes l.fn.text ++
    commands_text l.fn.bench (map call_of l.fn.acts.events.items))
