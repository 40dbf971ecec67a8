-- Entries of one name that leave together, and what puts them back.
use Rattle.std.specs.Prelude.{◌≡◌, ◌≢◌, ℕ, zero, suc, ◌+◌, Bool, true, false, is_some, List, [], ◌∷◌, ◌++◌, map, length, Option, None, Some}
use Rattle.std.specs.List.{AllByRecursion}
use Rattle.std.specs.Option.{option_map}
use Rattle.std.specs.FinMap as fin
use Rattle.std.specs.FinSet as set
use Rattle.dots_core.specs.declared.dot.Dot.{Dot}
use Rattle.dots_core.specs.Dots.{Dots, dot}
use Rattle.entry_core.specs.EntryLists.{pairs}
use Rattle.entry_core.specs.Presences.{Presence, Entry, Entries, entry_of}
use Rattle.store_core.specs.Stores.{Store}
use Rattle.store_core.specs.EntryMoves.{with_each, without_each}
use Rattle.store_core.specs.LeftEntries.{Left, dots_before}

-- the set with these dots
abbrev pub with_dots : List Dot → Dots → Dots
with_dots [] s = s
with_dots (d ∷ ds) s = with_dots ds (set.insert s d)

-- the set after this many dots of the name are put in: those right above this clock
abbrev pub with_next : ℕ → ℕ → ℕ → Dots → Dots
with_next name clock zero s = s
with_next name clock (suc n) s = set.insert (with_next name clock n s) (dot name (clock + suc n))

-- the set without this many dots of the name: those right above this clock
abbrev pub without_next : ℕ → ℕ → ℕ → Dots → Dots
without_next name clock zero s = s
without_next name clock (suc n) s = without_next name clock n (set.remove s (dot name (clock + suc n)))

-- the store after the entries at these dots left: it has seen one more dot of the name for each, from right above this clock on
abbrev pub left_store : ℕ → ℕ → List Dot → Store → Store
left_store name clock ds s = record { seen = with_next name clock (length ds) s.seen; entries = without_each ds s.entries }

-- the delta after the entries at these dots left: it has these dots, and one more dot of the name for each, from right above this clock on
abbrev pub left_delta : ℕ → ℕ → List Dot → Store → Store
left_delta name clock ds s = record { seen = with_next name clock (length ds) (with_dots ds s.seen); entries = without_each ds s.entries }

-- what a leave of the entry at a dot destroys, if there is an entry
abbrev pub left_at : Dot → Option Presence → Option Presence → Bool → List Left
left_at d None unsent in_delta = []
left_at d (Some p) unsent in_delta = record { entry = entry_of d p; unsent = option_map (entry_of d) unsent; in_delta = in_delta } ∷ []

-- what leaves at these dots destroy, one after another, in a store's entries, a delta's entries and the delta's dots
abbrev pub lefts_of : List Dot → Entries → Entries → Dots → List Left
lefts_of [] es unsent seen = []
lefts_of (d ∷ ds) es unsent seen =
    left_at d (fin.get es d) (fin.get unsent d) (set.contains seen d) ++ lefts_of ds (fin.remove es d) (fin.remove unsent d) seen

-- what stands at these dots, found all at once
abbrev pub found_lefts : List Dot → Entries → Entries → Dots → List Left
found_lefts [] es unsent seen = []
found_lefts (d ∷ ds) es unsent seen =
    left_at d (fin.get es d) (fin.get unsent d) (set.contains seen d) ++ found_lefts ds es unsent seen

-- the entries without those at the dots of the found ones
abbrev pub without_found : List Left → Entries → Entries
without_found [] es = es
without_found (l ∷ ls) es = without_found ls (fin.remove es l.entry.dot)

-- the one that left, as a list, if its dot has an entry; else nothing
abbrev pub left_if : Left → Bool → List Left
left_if l false = []
left_if l true = l ∷ []

-- of the found ones, those whose dots still have an entry, each once
abbrev pub still_there : List Left → Entries → List Left
still_there [] es = []
still_there (l ∷ ls) es = left_if l (is_some (fin.get es l.entry.dot)) ++ still_there ls (fin.remove es l.entry.dot)

-- the entries that left
abbrev pub entries_left : List Left → List Entry
entries_left ls = map (λ (l : Left). l.entry) ls

abbrev pub listed : Option Entry → List Entry
listed None = []
listed (Some e) = e ∷ []

-- the delta's entries that left
abbrev pub unsent_left : List Left → List Entry
unsent_left [] = []
unsent_left (l ∷ ls) = listed l.unsent ++ unsent_left ls

-- the dots, without the dot of each entry that left, if the dot had not stood there before
abbrev pub dots_before_each : List Left → Dots → Dots
dots_before_each [] s = s
dots_before_each (l ∷ ls) s = dots_before_each ls (dots_before l.in_delta l.entry.dot s)

-- the store with the entries that left, and without the dots of the name right above this clock, one for each of these entries
abbrev pub restored_each : ℕ → ℕ → List Left → Store → Store
restored_each name clock ls s =
    record { seen = without_next name clock (length ls) s.seen; entries = with_each (pairs (entries_left ls)) s.entries }

-- the delta with its entries that left, and without the dots that it got: those of the name right above this clock, one for each entry
-- that left the store, and the dot of each of these entries that had not stood in the delta before
abbrev pub restored_delta_each : ℕ → ℕ → List Left → Store → Store
restored_delta_each name clock ls s = record {
  seen = dots_before_each ls (without_next name clock (length ls) s.seen);
  entries = with_each (pairs (unsent_left ls)) s.entries;
}

-- no two of these dots are the same
abbrev pub Differ : List Dot → Type 0
Differ [] = Unit {0}
Differ (d ∷ ds) = AllByRecursion (λ (e : Dot). e ≢ d) ds × Differ ds

-- each of these dots has an entry
abbrev pub AreLive : List Dot → Entries → Type 0
AreLive ds es = AllByRecursion (λ (d : Dot). fin.contains_key es d ≡ true) ds
