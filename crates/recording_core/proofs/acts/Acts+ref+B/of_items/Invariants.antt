use Rattle.std.proofs.Common.{◌≡◌, ℕ, ◌≤◌, List, length}
use Rattle.json.specs.Json.{items, value, parse_map}
use Rattle.serde_json.specs.Data.{Data}
use Rattle.serde_json.specs.Read.{of_items, converted}
use Rattle.recording_core.specs.Drafts.{AreRead}
use Rattle.json_core.proofs.Reading.{items_after}
use Rattle.recording_core.proofs.acts.Acts+ref+B.of_items.Given as goal

-- the values read so far stand before those to come, and are the events
abbrev pub invariant-items : goal.invariant-items
invariant-items g l =
    (n : ℕ) × (ds : List Data) × (length l.reader ≤ n)
    × (converted of_items (items (value 125) (length l.initial.reader) l.initial.reader) ≡ parse_map (items_after ds) (converted of_items (items (value 125) n l.reader)))
    × (length l.reader ≤ length l.initial.reader) × AreRead ds l.acts.events.items l.acts.is_cut

abbrev pub decreases-items : goal.decreases-items
decreases-items g l = length l.reader
