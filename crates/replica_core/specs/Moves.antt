-- What a call moved, by its change: the entries that left, the dots that joined, and the name that is up from then on, or no
-- more.
use Rattle.std.specs.Prelude.{◌≡◌, ◌⊎◌, ℕ, ◌==◌, ◌&&◌, not, Bool, true, false, List, [], ◌∷◌, Option, None, Some}
use Rattle.dots_core.specs.declared.dot.Dot.{Dot}
use Rattle.payload_core.specs.EntryLists.{pairs}
use Rattle.store_core.specs.EntryMoves.{AreNew, with_each, without_each}
use Rattle.store_core.specs.LeavesTogether.{Differ, entries_left}
use Rattle.payload_core.specs.Presences.{Entry}
use Rattle.replica_core.specs.Changes.{Change, ChangeLeadsBack, OfJoin, OfLeave, OfLeaveAll, OfUpdate, OfUp, OfDown, OfPermdown, OfDeliver}
use Rattle.replica_core.specs.Replicas.{Replica, is_online, last}
use Rattle.replica_core.specs.Views.{is_some_up}

-- the entries that left
abbrev pub left_by : Change → List Entry
left_by OfJoin = []
left_by (OfLeave l) = l.entry ∷ []
left_by (OfLeaveAll ls) = entries_left ls
left_by (OfUpdate l) = l.entry ∷ []
left_by (OfUp name before) = []
left_by (OfDown name before) = []
left_by (OfPermdown name f) = f.entries
left_by (OfDeliver d) = d.left

-- the dots of the entries that joined by the call, after which the replica is this one
abbrev pub joined_by : Change → Replica → List Dot
joined_by OfJoin r = last r ∷ []
joined_by (OfLeave l) r = []
joined_by (OfLeaveAll ls) r = []
joined_by (OfUpdate l) r = last r ∷ []
joined_by (OfUp name before) r = []
joined_by (OfDown name before) r = []
joined_by (OfPermdown name f) r = []
joined_by (OfDeliver d) r = d.joined

-- the name, if the test holds
abbrev pub name_if : Bool → ℕ → Option ℕ
name_if true name = Some name
name_if false name = None

-- the name that is up since the call, and wasn't before
abbrev pub shown_by : Change → Option ℕ
shown_by (OfUp name before) = name_if (not (is_some_up before)) name
shown_by _ = None

-- the name that was up before the call, and isn't any more
abbrev pub hidden_by : Change → Option ℕ
hidden_by (OfDown name before) = name_if (is_some_up before) name
hidden_by _ = None

-- whether there is a name, and it is this one
abbrev pub is_named : Option ℕ → ℕ → Bool
is_named None n = false
is_named (Some name) n = n == name

-- what the change of a call that took replica a to replica b says of the two
pub record Moves (change : Change) (b a : Replica) : Type 0 where
  -- the entries of b, without those that joined and with those that left, are the entries of a
  pub entries : a.store.entries ≡ with_each (pairs (left_by change)) (without_each (joined_by change b) b.store.entries)
  -- b has no entry at the dot of one that left; neither two entries that left nor two that joined have one dot
  pub gone : AreNew (pairs (left_by change)) b.store.entries
  pub differ : Differ (joined_by change b)
  -- the change has the name that is up in b and not in a, if there is one, and the name that is up in a and not in b, if there is one
  pub shown : (n : ℕ) → is_named (shown_by change) n ≡ (is_online b n && not (is_online a n))
  pub hidden : (n : ℕ) → is_named (hidden_by change) n ≡ (is_online a n && not (is_online b n))
  -- if an entry left or joined, no name went up or down
  pub one : ((left_by change ≡ []) × (joined_by change b ≡ [])) ⊎ ((shown_by change ≡ None) × (hidden_by change ≡ None))

-- the change of a call tells what the call moved
abbrev pub MovesLaw : Type 0
MovesLaw = (change : Change) (b a : Replica) → ChangeLeadsBack change b a → Moves change b a
