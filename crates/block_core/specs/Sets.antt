-- Blocks that rise by name and base, as one map.
use Rattle.std.specs.Prelude.{◌≡◌, ◌==◌, ℕ, Bool, true, Option, None, ◌<◌, ◌≤◌, ◌/◌, List, [], ◌∷◌, ◌++◌, Some, length, map, take, drop, slice_get}
use Rattle.std.specs.declared.cmp.Ordering.TheVariants.{Less}
use Rattle.std.specs.Ordering.{is_lt}
use Rattle.std.specs.FinMap as fin
use Rattle.std.specs.List.{AllByRecursion}
use Rattle.dots_core.specs.declared.dot.Dot.{Dot}
use Rattle.dots_core.specs.Dots.{dot, dot_cmp}
use Rattle.entry_core.specs.Presences.{Entries, Entry, Presence, entry_of}
use Rattle.block_core.specs.Blocks.{Block, IsIn}

-- the key of a block, by which blocks rise: its name and its base, as a dot
abbrev pub key : Block → Dot
key b = dot b.name b.base

-- the key of the block that the dot is of
abbrev pub block_key : Dot → Dot
block_key d = dot d.name (d.clock / 64)

-- whether the block is below the one with this key
abbrev pub is_before : Dot → Block → Bool
is_before k b = is_lt (dot_cmp (key b) k)

-- each block is below those after it
abbrev pub RisingBlocks : List Block → Type 0
RisingBlocks [] = Unit {0}
RisingBlocks (b ∷ bs) = AllByRecursion (λ c. dot_cmp (key b) (key c) ≡ Less) bs × RisingBlocks bs

-- the dots of the block's entries are of the block
abbrev pub IsWithin : Block → Type 0
IsWithin b = AllByRecursion (λ p. IsIn b.name b.base p.0) (fin.entries b.map)

-- the block has an entry
abbrev pub IsFilled : Block → Type 0
IsFilled b = 0 < fin.len b.map

-- the entries of these blocks as pairs of a dot and its presence, side by side
abbrev pub joined : List Block → List (Dot × Presence)
joined [] = []
joined (b ∷ bs) = fin.entries b.map ++ joined bs

-- the blocks as one map
abbrev pub set_map : List Block → Entries
set_map bs = fin.from_sorted (joined bs)

-- the map's entries, by rising dot
abbrev pub listed : Entries → List Entry
listed m = map (λ p. entry_of p.0 p.1) (fin.entries m)

pub record AreBlocks (bs : List Block) : Type 0 where
  pub rises : RisingBlocks bs
  pub within : AllByRecursion IsWithin bs
  pub filled : AllByRecursion IsFilled bs

-- at place i stands the block with this key
pub record IsBlockAt (k : Dot) (bs : List Block) (i : ℕ) : Type 0 where
  pub block : Block
  pub at : slice_get bs i ≡ Some block
  pub is : key block ≡ k

-- place i is where a block with this key, which isn't there, would stand: the blocks before it are below, the others above
pub record IsGap (k : Dot) (bs : List Block) (i : ℕ) : Type 0 where
  pub inside : i ≤ length bs
  pub before : AllByRecursion (λ b. dot_cmp (key b) k ≡ Less) (take i bs)
  pub behind : AllByRecursion (λ b. dot_cmp k (key b) ≡ Less) (drop i bs)

-- the entries of these blocks, side by side
abbrev pub listed_in : List Block → List Entry
listed_in [] = []
listed_in (b ∷ bs) = listed b.map ++ listed_in bs

-- whether the name is wanted: each is, or only one
abbrev pub wants : Option ℕ → ℕ → Bool
wants None name = true
wants (Some wanted) name = name == wanted
