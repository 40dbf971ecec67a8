use Rattle.std.proofs.Common.{map, length}
use Rattle.std.specs.Prelude.{IsUtf8}
use Rattle.json_core.specs.Compact.{AreFirst}
use Rattle.serde_json.specs.Data.{string}
use Rattle.recording_core.proofs.scan.end_with.Given as goal

-- the strings so far
abbrev pub invariant-texts : goal.invariant-texts
invariant-texts g l =
    AreFirst l.initial.rest (map string (map (λ text. text.now) l.texts.items)) l.comma l.rest × IsUtf8 l.rest

abbrev pub decreases-texts : goal.decreases-texts
decreases-texts g l = length l.rest
