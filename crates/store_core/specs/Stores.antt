-- Dots that were seen, and the live entries among them: what a replica has seen, its delta and what a message carries are stores.
use Rattle.std.specs.Prelude.{ℕ, ◌==◌, ◌&&◌, not, Bool, refl, if◌then◌else◌}
use Rattle.std.specs.Coded.{Coded, code_by, coded×}
use Rattle.std.specs.FinMap as fin
use Rattle.std.specs.FinSet as set
use Rattle.dots_core.specs.declared.dot.Dot.{Dot}
use Rattle.dots_core.specs.Dots.{Dots, dot_code, of_names}
use Rattle.payload_core.specs.Messages.{Message}
use Rattle.entry_core.specs.Presences.{Presence, Entries, entries_code, entries_of_names, over}

-- a dot that was seen and has no entry was removed
pub record Store : Type 0 where
  pub seen : Dots
  pub entries : Entries

abbrev pub store_code : Coded Store
store_code =
    code_by (Dots × Entries) (coded× (set.code dot_code) entries_code) (λ s. (s.seen, s.entries)) (λ t. record { seen = t.0; entries = t.1 }) (λ _. refl)

-- nothing was seen
abbrev pub nothing : Store
nothing = record { seen = set.empty; entries = fin.empty }

-- the dot was seen, with this entry
abbrev pub with_entry : Dot → Presence → Store → Store
with_entry d p s = record { seen = set.insert s.seen d; entries = fin.insert s.entries d p }

-- the dot was seen, and its entry, if it had one, is gone
abbrev pub with_removal : Dot → Store → Store
with_removal d s = record { seen = set.insert s.seen d; entries = fin.remove s.entries d }

-- the dot was seen; the entries stay
abbrev pub with_dot : Dot → Store → Store
with_dot d s = record s { seen = set.insert s.seen d }

-- the entry at the dot, if there was one, is gone
abbrev pub without_entry : Dot → Store → Store
without_entry d s = record s { entries = fin.remove s.entries d }

-- the dot was not seen, and has no entry
abbrev pub without : Dot → Store → Store
without d s = record { seen = set.remove s.seen d; entries = fin.remove s.entries d }

-- what a message has, as a store
abbrev pub store_of : Message → Store
store_of m = record { seen = m.seen; entries = m.entries }

-- whether the name is another than this
abbrev pub is_other : ℕ → ℕ → Bool
is_other name n = not (n == name)

-- what the store has of these names
abbrev pub part : (ℕ → Bool) → Store → Store
part named s = record { seen = of_names named s.seen; entries = entries_of_names named s.entries }

-- whether the other store has seen the dot and has no entry there
abbrev pub is_gone : Store → Dot → Bool
is_gone other d = set.contains other.seen d && not (fin.contains_key other.entries d)

-- whether an entry of another store would be new: it is of these names, and its dot was not seen
abbrev pub is_new : (ℕ → Bool) → Store → Dot → Bool
is_new named s d = named d.name && not (set.contains s.seen d)

-- whether an entry leaves by another store: it is of these names, and gone there
abbrev pub leaves : (ℕ → Bool) → Store → Dot → Bool
leaves named other d = named d.name && is_gone other d

-- the other's entries that join
abbrev pub arrivals : (ℕ → Bool) → Store → Store → Entries
arrivals named other s = fin.retain_keys other.entries (is_new named s)

-- the entries that leave
abbrev pub departures : (ℕ → Bool) → Store → Store → Entries
departures named other s = fin.retain_keys s.entries (leaves named other)

-- the entries that stay
abbrev pub remaining : (ℕ → Bool) → Store → Store → Entries
remaining named other s = fin.retain_keys s.entries (λ d. not (leaves named other d))

-- a delivery of `other`, for these names: what is new joins, what is gone leaves, and the dots are seen
abbrev pub merged : (ℕ → Bool) → Store → Store → Store
merged named other s = record { seen = set.union s.seen (of_names named other.seen); entries = over (arrivals named other s) (remaining named other s) }

-- how a dot stands: 1 if it has an entry; else 2 if it was seen, and 0 if it was not
abbrev pub standing : Store → Dot → ℕ
standing s d = if fin.contains_key s.entries d then 1 else (if set.contains s.seen d then 2 else 0)
