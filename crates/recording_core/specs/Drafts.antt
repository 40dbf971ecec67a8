-- A session's value without the items of its acts, and the events that these items stand for.
use Rattle.std.specs.Prelude.{◌≡◌, ℕ, List, [], ◌∷◌, Bool, true, false, if◌then◌else◌, Some, None}
use Rattle.serde_json.specs.Data.{Data, null, boolean, number, string, array, object, no_items, Members, no_members, member}
use Rattle.bench_core.specs.Machine.{Event}
use Rattle.event_core.specs.Decoding.{event_at}
use Rattle.recording_core.specs.Decoding.{are_acts, acts_of}
use Rattle.recording_core.specs.Sessions.{data_of}

-- an array without its items; another value as it is
abbrev pub emptied : Data → Data
emptied null = null
emptied (boolean b) = boolean b
emptied (number n) = number n
emptied (string s) = string s
emptied (array ds) = array no_items
emptied (object ms) = object ms

abbrev pub emptied_at : List ℕ → Data → Data
emptied_at key d = if are_acts key then emptied d else d

abbrev pub head_members : Members → Members
head_members no_members = no_members
head_members (member key d ms) = member key (emptied_at key d) (head_members ms)

-- the value, with no items in its acts
abbrev pub head : Data → Data
head null = null
head (boolean b) = boolean b
head (number n) = number n
head (string s) = string s
head (array ds) = array ds
head (object ms) = object (head_members ms)

-- the values stand for these events: all values do, or, if `is_cut`, those before the first that stands for no event
abbrev pub AreRead : List Data → List Event → Bool → Type 0
AreRead [] [] is_cut = is_cut ≡ false
AreRead [] (e ∷ es) is_cut = ⊥
AreRead (d ∷ ds) [] is_cut = (is_cut ≡ true) × (event_at d ≡ None)
AreRead (d ∷ ds) (e ∷ es) is_cut = (event_at d ≡ Some e) × AreRead ds es is_cut

-- what was read from a value: the value without the items of its acts, and the events that these items stand for, as `AreRead` has them
abbrev pub IsDraft : Data → Data → List Event → Bool → Type 0
IsDraft d first events is_cut = (first ≡ head d) × AreRead (data_of (acts_of d)) events is_cut
