-- An entry that one handle has alone, or that several may share. No contract of a public function cites this module.
use Rattle.std.specs.Arc.{arc_value}
use Rattle.entry_core.specs.Presences.{Entry}
use Rattle.entry_core.specs.Short.{IsShort}
use Rattle.entry_core.specs.declared.handle.Holder.{Holder}
use Rattle.entry_core.specs.declared.handle.Holder.TheVariants.{Own, Shared}

module _ {Z : Type 0} where
  abbrev pub held : Holder Z → Entry
  held (Own b) = b.value
  held (Shared a) = arc_value a

  -- an entry that several handles may share is short
  abbrev pub IsHeld : Holder Z → Type 0
  IsHeld (Own b) = Unit {0}
  IsHeld (Shared a) = IsShort (arc_value a)
