-- What a contract sees of a set of entries: the map of its presences, and for how many more entries there is room.
use Rattle.std.specs.Prelude.{ℕ, refl}
use Rattle.std.specs.Coded.{Coded, code_by, coded×, coded_ℕ}
use Rattle.entry_core.specs.Presences.{Entries, entries_code}

-- sets with the same map may differ in their room
pub record EntrySet : Type 0 where
  pub map : Entries
  pub room : ℕ

-- a set of entries is stored as the pair of its fields
abbrev pub entry_set_code : Coded EntrySet
entry_set_code =
    code_by (Entries × ℕ) (coded× entries_code coded_ℕ) (λ s. (s.map, s.room)) (λ p. record { map = p.0; room = p.1 }) (λ _. refl)
