-- An index of the entries of one name by their hashes: it says of a hash that no entry has it, at which dot the one entry stands that
-- may have it, or that several may have it.
use Rattle.std.specs.Prelude.{◌≡◌, ℕ, Bool, false, ◌==◌, ◌&&◌, if◌then◌else◌, List, Option, Some, None, refl}
use Rattle.std.specs.Coded.{Coded, code_by, coded×, coded_list, coded_option, coded_ℕ}
use Rattle.std.specs.FinMap as fin
use Rattle.std.specs.Map.{lookup}
use Rattle.dots_core.specs.declared.dot.Dot.{Dot}
use Rattle.dots_core.specs.Dots.{dot_code}
use Rattle.payload_core.specs.Hashes.{hash_of}
use Rattle.entry_core.specs.Presences.{Entries, Presence}
use Rattle.payload_core.specs.declared.track_index.Holder.{Holder}
use Rattle.payload_core.specs.declared.track_index.Holder.TheVariants.{One, Several}

-- the name whose entries it knows, if there is one; what is known of each of their hashes; and for how many more hashes there is room
pub record TrackIndex : Type 0 where
  pub name : Option ℕ
  pub holders : List (ℕ × Holder)
  pub room : ℕ

-- a holder is stored as its dot, if it has one
abbrev pub dot_held : Holder → Option Dot
dot_held (One d) = Some d
dot_held Several = None

abbrev pub holder_at : Option Dot → Holder
holder_at (Some d) = One d
holder_at None = Several

pub holder_back : (h : Holder) → holder_at (dot_held h) ≡ h
holder_back (One d) = refl
holder_back Several = refl

abbrev pub holder_code : Coded Holder
holder_code = code_by (Option Dot) (coded_option dot_code) dot_held holder_at holder_back

-- an index is stored as the tuple of its fields
abbrev pub track_index_code : Coded TrackIndex
track_index_code =
    code_by (Option ℕ × (List (ℕ × Holder) × ℕ)) (coded× (coded_option coded_ℕ) (coded× (coded_list (coded× coded_ℕ holder_code)) coded_ℕ))
    (λ x. (x.name, (x.holders, x.room))) (λ t. record { name = t.0; holders = t.1.0; room = t.1.1 }) (λ _. refl)

-- what these holders know of a hash
abbrev pub held_as : List (ℕ × Holder) → ℕ → Option Holder
held_as holders hash = lookup (λ m. hash == m) holders

-- whether there is a name, and it is this one
abbrev pub is_of : Option ℕ → ℕ → Bool
is_of None name = false
is_of (Some own) name = own == name

-- what the index knows of a hash among the entries of the name; if the name isn't its own, nothing: several entries may have the hash
abbrev pub holder_of : TrackIndex → ℕ → ℕ → Option Holder
holder_of index name hash = if is_of index.name name then held_as index.holders hash else Some Several

-- what `told` says of the box, or `none` if there is no box
abbrev pub in_box : {M X : Type 0} → X → (M → X) → Option M → X
in_box none told None = none
in_box none told (Some m) = told m

-- by what is known of a hash, the entry at this dot may have it
abbrev pub Holds : Option Holder → Dot → Type 0
Holds None d = ⊥
Holds (Some (One held)) d = held ≡ d
Holds (Some Several) d = Unit {0}

-- what the index knows of a hash rules out no entry that has this hash
pub record Covers (index : TrackIndex) (es : Entries) : Type 0 where
  pub held : (d : Dot) (p : Presence) → fin.get es d ≡ Some p → Holds (holder_of index d.name (hash_of p.pid p.topic p.key)) d

-- the dot, if it is of the name and has a presence that passes the test
abbrev pub dot_if : Dot → ℕ → (Presence → Bool) → Option Presence → Option Dot
dot_if d name test None = None
dot_if d name test (Some p) = if (d.name == name) && test p then Some d else None

abbrev pub tracked_at : Entries → Dot → ℕ → (Presence → Bool) → Option Dot
tracked_at es d name test = dot_if d name test (fin.get es d)
