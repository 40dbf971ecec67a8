-- What a message changes: the dots that are new, and those that are gone.
use Rattle.std.specs.Prelude.{◌≡◌, ℕ, ◌<◌, ◌≤◌, ◌&&◌, Bool, true, List, [], Some, filter, not, is_some, slice_get}
use Rattle.std.specs.FinMap as fin
use Rattle.std.specs.FinSet as set
use Rattle.dots_core.specs.declared.dot.Dot.{Dot}
use Rattle.dots_core.specs.Dots.{Dots}
use Rattle.block_core.specs.Blocks.{Block, IsIn}
use Rattle.entry_core.specs.Presences.{Entries}
use Rattle.block_core.specs.Sets.{is_before, set_map}

-- whether the dot is of these names, and was not seen
abbrev pub is_new : (ℕ → Bool) → Dots → Dot → Bool
is_new named seen d = named d.name && not (set.contains seen d)

-- whether the dot is of these names, has been seen there, and has no entry there
abbrev pub is_gone : (ℕ → Bool) → Dots → Entries → Dot → Bool
is_gone named seen there d = named d.name && (set.contains seen d && not (is_some (fin.get there d)))

-- in the blocks at the places from i on and below j, no entry's dot passes the test
abbrev pub HasNone : (Dot → Bool) → List Block → ℕ → ℕ → Type 0
HasNone test bs i j = (k : ℕ) (b : Block) → i ≤ k → k < j → slice_get bs k ≡ Some b → filter (λ p. test p.0) (fin.entries b.map) ≡ []

-- the block has entries at exactly those of its dots at which these blocks have entries
abbrev pub IsAlike : List Block → Block → Type 0
IsAlike there b = (d : Dot) → IsIn b.name b.base d → is_some (fin.get b.map d) ≡ is_some (fin.get (set_map there) d)

-- each block at a place from i on and below j has entries at exactly those of its dots at which the blocks of `there` have entries
abbrev pub AreAlike : List Block → List Block → ℕ → ℕ → Type 0
AreAlike there bs i j = (k : ℕ) (b : Block) → i ≤ k → k < j → slice_get bs k ≡ Some b → IsAlike there b

-- the blocks at the places from i on and below j are below the block with this key
abbrev pub AreBefore : Dot → List Block → ℕ → ℕ → Type 0
AreBefore key bs i j = (k : ℕ) (b : Block) → i ≤ k → k < j → slice_get bs k ≡ Some b → is_before key b ≡ true
