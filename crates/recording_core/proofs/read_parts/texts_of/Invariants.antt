use Rattle.std.proofs.Common.{◌≡◌, drop, map}
use Rattle.serde_json.specs.View.{items_view}
use Rattle.recording_core.specs.Decoding.{texts_of}
use Rattle.recording_core.proofs.Loops.{with_front}
use Rattle.recording_core.proofs.read_parts.texts_of.Given as goal

-- the texts so far and those of what is left are those of all
abbrev pub invariant-loop-value : goal.invariant-loop-value
invariant-loop-value l = with_front (map (λ text. text.now) l.texts.items) (texts_of (items_view (drop l.value-index l.values))) ≡ texts_of (items_view l.values)
