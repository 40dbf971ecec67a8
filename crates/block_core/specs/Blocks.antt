-- A block: the live entries of one name among 64 clocks.
use Rattle.std.specs.Prelude.{◌≡◌, ℕ, ◌/◌, List, is_some, refl}
use Rattle.std.specs.Coded.{Coded, code_by, coded×, coded_ℕ}
use Rattle.std.specs.FinMap as fin
use Rattle.std.specs.List.{AllByRecursion}
use Rattle.dots_core.specs.declared.dot.Dot.{Dot}
use Rattle.entry_core.specs.Presences.{Entries, Entry, entries_code, presence_of}
use Rattle.entry_core.specs.EntryLists.{Rises, entries_of}
use Rattle.entry_core.specs.Masks.{IsWith, is_live}

-- the name, the quotient of the clocks by 64, and the entries by their dots
pub record Block : Type 0 where
  pub name : ℕ
  pub base : ℕ
  pub map : Entries

-- a block is stored as the tuple of its fields
abbrev pub block_code : Coded Block
block_code =
    code_by (ℕ × (ℕ × Entries)) (coded× coded_ℕ (coded× coded_ℕ entries_code)) (λ b. (b.name, (b.base, b.map)))
    (λ t. record { name = t.0; base = t.1.0; map = t.1.1 }) (λ _. refl)

-- the dot is of the block with this name and this base
pub record IsIn (n b : ℕ) (d : Dot) : Type 0 where
  pub name : d.name ≡ n
  pub base : d.clock / 64 ≡ b

-- of the block's dots, the mask has the bits of those at which the map has an entry, and of no others
abbrev pub IsMaskOf : ℕ → ℕ → ℕ → Entries → Type 0
IsMaskOf n b mask m = (d : Dot) → IsIn n b d → is_live mask d ≡ is_some (fin.get m d)

-- all entries are of this block
abbrev pub AreIn : ℕ → ℕ → List Entry → Type 0
AreIn name base es = AllByRecursion (λ e. IsIn name base e.dot) es

-- all entries are of the dot's block
abbrev pub AreNear : Dot → List Entry → Type 0
AreNear d es = AreIn d.name (d.clock / 64) es

-- the live entries among these, as a map
abbrev pub live_map : ℕ → List Entry → Entries
live_map live es = fin.retain_keys (entries_of es) (is_live live)

-- an entry came into a list of its block: the new list rises by dot and has entries of this block alone; with the entry's bit set in
-- `live`, its live entries are those of the old list with this entry put in
pub record IsPutIn (live : ℕ) (e : Entry) (old new : List Entry) : Type 0 where
  pub rises : Rises new
  pub near : AreNear e.dot new
  pub map : (with : ℕ) → IsWith with live e.dot.clock → live_map with new ≡ fin.insert (live_map live old) e.dot (presence_of e)
