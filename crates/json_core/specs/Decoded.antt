-- What the code gives when it reads something, compared with what it should give.
use Rattle.std.specs.Prelude.{◌≡◌, Result, Ok, Err, Option, Some, None}
use Rattle.json_core.specs.declared.unread.Unread.{Unread}
use Rattle.json_core.specs.declared.unread.Unread.TheVariants as unread

abbrev pub Fails : {Y : Type 0} → Unread → Option Y → Type 0
Fails unread.Memory meant = Unit {0}
Fails unread.Shape meant = meant ≡ None

-- the code gives the value that is meant, as `view` shows it, or the fault `Shape`, if none is meant; unless memory was refused
abbrev pub Gives : {X Y : Type 0} → (X → Y) → Result X Unread → Option Y → Type 0
Gives view (Ok x) meant = meant ≡ Some (view x)
Gives view (Err e) meant = Fails e meant
