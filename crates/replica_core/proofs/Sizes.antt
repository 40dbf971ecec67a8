-- A part of a replica fits in memory where the replica does.
use Rattle.std.proofs.Common.{ℕ, ◌+◌, ◌<◌, arith}
use Rattle.std.specs.Mem.{FitsInMemory}
use Rattle.std.specs.declared.alloc.Allocator.{Ghosts}
use denote.RattleType.{RattleType}
use denote.Param.{param}
use Rattle.dots_core.specs.contracts.dot_set.DotSet as dots
use Rattle.payload_core.specs.contracts.entry_set.EntrySet as entries
use Rattle.store_core.specs.contracts.delta_store.DeltaStore as store
use Rattle.replica_core.specs.contracts.replica.Replica as replica

-- a size is a sum: what stands before the last field, that field, and what fills up behind it
pub earlier : (a b n : ℕ) → a + b < n → a < n
earlier a b n h = omega arith

pub later : (a b n : ℕ) → a + b < n → b < n
later a b n h = omega arith

module _ (A : RattleType) (g : Ghosts (param 0 A).Denot) (whole : FitsInMemory (replica.the_row (param 0 A) g)) where
  -- the stores, which are the last field
  pub store_fits : FitsInMemory (store.the_row (param 0 A) g)
  store_fits = later _ _ _ (earlier _ _ _ whole)

  pub entries_fit : FitsInMemory (entries.the_row (param 0 A) g)
  entries_fit = later _ _ _ (earlier _ _ _ store_fits)

  pub seen_fits : FitsInMemory (dots.the_row (param 0 A) g)
  seen_fits = later _ _ _ (earlier _ _ _ (earlier _ _ _ (earlier _ _ _ store_fits)))
