-- A list of entries that may be shared.
use Rattle.std.specs.Prelude.{ℕ, List, filter}
use Rattle.std.specs.List.{AllByRecursion}
use Rattle.entry_core.specs.Presences.{Entry}
use Rattle.entry_core.specs.Short.{IsShort}
use Rattle.entry_core.specs.Masks.{is_live}

-- each of these entries is short
abbrev pub AreShort : List Entry → Type 0
AreShort es = AllByRecursion IsShort es

-- the entries whose clock's bit is set in `live`
abbrev pub live_ones : ℕ → List Entry → List Entry
live_ones live es = filter (λ e. is_live live e.dot) es
