-- A list of entries that rises by dot, as the map of its presences.
use Rattle.std.specs.Prelude.{◌≡◌, true, ◌<◌, ◌≤◌, Some, length, slice_get, ℕ, suc, T, List, [], ◌∷◌, map, Result, Ok, Err}
use Rattle.std.specs.FinMap as fin
use Rattle.std.specs.Ordering.{is_lt}
use Rattle.std.specs.FinMap.Entries.{by_order}
use Rattle.dots_core.specs.declared.dot.Dot.{Dot}
use Rattle.dots_core.specs.Dots.{IsBelow, IsFrom, dot_cmp}
use Rattle.entry_core.specs.Presences.{Presence, Entry, Entries, presence_of}

abbrev pub pair_of : Entry → Dot × Presence
pair_of e = (e.dot, presence_of e)

-- the entries as pairs of a dot and its presence
abbrev pub pairs : List Entry → List (Dot × Presence)
pairs es = map pair_of es

-- each dot is below those after it
abbrev pub Rises : List Entry → Type 0
Rises es = T (fin.is_sorted dot_cmp (pairs es))

-- the map of the presences by their dots
abbrev pub entries_of : List Entry → Entries
entries_of es = fin.from_sorted (pairs es)

-- the place of the first entry whose dot is not below d, or the end
pub record IsPlaceFrom (d : Dot) (ps : List (Dot × Presence)) (i : ℕ) : Type 0 where
  pub within : i ≤ length ps
  pub below : (k : ℕ) (p : Dot × Presence) → k < i → slice_get ps k ≡ Some p → IsBelow p.0 d
  pub from : (k : ℕ) (p : Dot × Presence) → i ≤ k → slice_get ps k ≡ Some p → IsFrom d p.0

-- the result of a search, one place further on
abbrev pub one_later : Result ℕ ℕ → Result ℕ ℕ
one_later (Ok place) = Ok (suc place)
one_later (Err place) = Err (suc place)

-- the place of the dot's entry, or else the place where it would stand
abbrev pub spot : Dot → List Entry → Result ℕ ℕ
spot d [] = Err 0
spot d (e ∷ es) = by_order (dot_cmp d e.dot) (Err 0) (Ok 0) (one_later (spot d es))

-- the entry before the place, if there is one, is below the dot
abbrev pub IsBehind : Dot → List Entry → ℕ → Type 0
IsBehind d es i = (j : ℕ) (e : Entry) → suc j ≡ i → slice_get es j ≡ Some e → is_lt (dot_cmp e.dot d) ≡ true

-- the entry at the place, if there is one, is above the dot
abbrev pub IsBefore : Dot → List Entry → ℕ → Type 0
IsBefore d es i = (e : Entry) → slice_get es i ≡ Some e → is_lt (dot_cmp d e.dot) ≡ true
