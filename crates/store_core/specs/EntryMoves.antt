-- Entries taken out of a map one after another, and put back.
use Rattle.std.specs.Prelude.{◌≡◌, List, [], ◌∷◌, ◌++◌, map, Option, None, Some}
use Rattle.std.specs.FinMap as fin
use Rattle.dots_core.specs.declared.dot.Dot.{Dot}
use Rattle.entry_core.specs.Presences.{Presence, Entries}

-- the map after these are put in, the first one first
abbrev pub with_each : List (Dot × Presence) → Entries → Entries
with_each [] es = es
with_each (p ∷ ps) es = with_each ps (fin.insert es p.0 p.1)

-- the map after these dots are taken out
abbrev pub without_each : List Dot → Entries → Entries
without_each [] es = es
without_each (d ∷ ds) es = without_each ds (fin.remove es d)

-- the entry of a dot, if there is one
abbrev pub found_at : Dot → Option Presence → List (Dot × Presence)
found_at d None = []
found_at d (Some p) = (d, p) ∷ []

-- the entries that are taken out with these dots
abbrev pub picked : List Dot → Entries → List (Dot × Presence)
picked [] es = []
picked (d ∷ ds) es = found_at d (fin.get es d) ++ picked ds (fin.remove es d)

-- the entries at these dots
abbrev pub found_each : List Dot → Entries → List (Dot × Presence)
found_each [] es = []
found_each (d ∷ ds) es = found_at d (fin.get es d) ++ found_each ds es

-- none of these dots is in the map, and no two of them are the same
abbrev pub AreNew : List (Dot × Presence) → Entries → Type 0
AreNew [] es = Unit {0}
AreNew (p ∷ ps) es = (fin.get es p.0 ≡ None) × AreNew ps (fin.insert es p.0 p.1)

-- the dots of these pairs
abbrev pub dots_of_pairs : List (Dot × Presence) → List Dot
dots_of_pairs ps = map (λ p. p.0) ps
