-- What a store held of a name that it forgot.
use Rattle.std.specs.Prelude.{◌≡◌, ℕ, ◌==◌, List}
use Rattle.std.specs.FinMap as fin
use Rattle.dots_core.specs.Clocks.{Clocks}
use Rattle.dots_core.specs.Contexts.{IsPartOf, with_part}
use Rattle.entry_core.specs.EntryLists.{pairs}
use Rattle.entry_core.specs.Presences.{Entry, entries_of_names}
use Rattle.store_core.specs.EntryMoves.{with_each}
use Rattle.store_core.specs.Stores.{Store}

-- the context clock and cloud of the name, and its entries by rising dot
pub record Forgotten : Type 0 where
  pub part : Clocks
  pub entries : List Entry

-- f has what the store holds of the name, and nothing more
pub record Holds (name : ℕ) (s : Store) (f : Forgotten) : Type 0 where
  pub part : IsPartOf s.seen name f.part
  pub entries : pairs f.entries ≡ fin.entries (entries_of_names (λ n. n == name) s.entries)

-- the store with what it held of the name
abbrev pub remembered : ℕ → Forgotten → Store → Store
remembered name f s = record { seen = with_part name f.part s.seen; entries = with_each (pairs f.entries) s.entries }
