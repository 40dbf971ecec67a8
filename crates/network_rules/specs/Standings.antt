-- How a dot stands, by the dots that were seen and the entries: 0 unseen, 1 live, 2 gone.
use Rattle.std.specs.Prelude.{ℕ}
use Rattle.dots_core.specs.declared.dot.Dot.{Dot}
use Rattle.dots_core.specs.Dots.{Dots}
use Rattle.payload_core.specs.Presences.{Entries}
use Rattle.store_core.specs.Stores.{standing}

abbrev pub standing_in : Dots → Entries → Dot → ℕ
standing_in seen entries dot = standing (record { seen = seen; entries = entries }) dot
