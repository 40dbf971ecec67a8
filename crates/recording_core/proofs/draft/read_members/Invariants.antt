use Rattle.std.proofs.Common.{◌≡◌, ℕ, ◌≤◌, length}
use Rattle.json.specs.Json.{members, value}
use Rattle.serde_json.specs.Data.{Members, no_members}
use Rattle.serde_json.specs.Read.{of_members, converted}
use Rattle.serde_json.specs.View.{members_view}
use Rattle.recording_core.specs.Decoding.{acts_members}
use Rattle.recording_core.specs.Drafts.{AreRead, head_members}
use Rattle.recording_core.specs.Sessions.{data_of}
use Rattle.recording_core.proofs.draft.read_members.Given as goal

-- the members read so far, their head and their acts
abbrev pub invariant-members : goal.invariant-members
invariant-members g l =
    (n : ℕ) × (old : Members) × (length l.reader ≤ n)
    × (converted (λ ms. of_members ms no_members) (members (value 126) (length l.initial.reader) l.initial.reader) ≡ converted (λ ms. of_members ms old) (members (value 126) n l.reader))
    × (length l.reader ≤ length l.initial.reader) × (members_view l.found.entries ≡ head_members old)
    × AreRead (data_of (acts_members old)) l.acts.events.items l.acts.is_cut

abbrev pub decreases-members : goal.decreases-members
decreases-members g l = length l.reader
