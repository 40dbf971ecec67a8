-- Entries that one list has alone, or that several may share. No contract of a public function cites this module.
use Rattle.std.specs.Prelude.{List}
use Rattle.std.specs.Arc.{arc_value}
use Rattle.entry_core.specs.Presences.{Entry}
use Rattle.entry_core.specs.Lists.{AreShort}
use Rattle.entry_core.specs.declared.entry_list.Items.{Items}
use Rattle.entry_core.specs.declared.entry_list.Items.TheVariants.{Own, Shared}

module _ {Z : Type 0} where
  abbrev pub items_of : Items Z → List Entry
  items_of (Own b) = b.value.items
  items_of (Shared a) = (arc_value a).items

  -- entries that several lists may share are short
  abbrev pub IsKept : Items Z → Type 0
  IsKept (Own b) = Unit {0}
  IsKept (Shared a) = AreShort (arc_value a).items
