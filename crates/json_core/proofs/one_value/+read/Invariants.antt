use Rattle.std.proofs.Common.{◌≡◌, ℕ, ◌+◌, ◌*◌, ◌≤◌, length, map}
use Rattle.json.specs.Json.{items, members, value, parse_map}
use Rattle.serde_json.specs.Data.{no_members}
use Rattle.serde_json.specs.Read.{of_items, of_members, converted}
use Rattle.serde_json.specs.View.{view, members_view}
use Rattle.json_core.proofs.Reading.{items_after}
use Rattle.json_core.proofs.one_value.+read.Given as goal

abbrev pub decreases-value_of : goal.decreases-value_of
decreases-value_of l = 3 * l.depth + 1

abbrev pub decreases-value_from : goal.decreases-value_from
decreases-value_from l = 3 * l.depth

abbrev pub decreases-items_of : goal.decreases-items_of
decreases-items_of l = 3 * l.depth + 2

abbrev pub decreases-members_of : goal.decreases-members_of
decreases-members_of l = 3 * l.depth + 2

abbrev pub invariant-items_of-items : goal.invariant-items_of-items
invariant-items_of-items l =
    (n : ℕ) × (length l.reader ≤ n)
    × (converted of_items (items (value l.depth) (length l.initial.reader) l.initial.reader) ≡ parse_map (items_after (map view l.found.items)) (converted of_items (items (value l.depth) n l.reader)))
    × (length l.reader ≤ length l.initial.reader)

abbrev pub decreases-items_of-items : goal.decreases-items_of-items
decreases-items_of-items l = length l.reader

abbrev pub invariant-members_of-members : goal.invariant-members_of-members
invariant-members_of-members l =
    (n : ℕ) × (length l.reader ≤ n)
    × (converted (λ ms. of_members ms no_members) (members (value l.depth) (length l.initial.reader) l.initial.reader) ≡ converted (λ ms. of_members ms (members_view l.found.entries)) (members (value l.depth) n l.reader))
    × (length l.reader ≤ length l.initial.reader)

abbrev pub decreases-members_of-members : goal.decreases-members_of-members
decreases-members_of-members l = length l.reader
