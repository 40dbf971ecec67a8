-- What a reader of scripts gives, compared with what it is to give: a value, or the first fault.
use Rattle.std.specs.Prelude.{◌≡◌, Result, Ok, Err}
use Rattle.payload_core.specs.Results.{GivesUnless}
use Rattle.grammar_core.specs.declared.fault.FaultKind.{FaultKind}
use Rattle.grammar_core.specs.declared.fault.FaultKind.TheVariants.{OutOfMemory}
use Rattle.grammar_core.specs.declared.fault.ScriptFault.{ScriptFault}

-- for a line or a part of it: the result is the one that it is to be, unless its fault is want of memory
abbrev pub Gives : {X Y : Type 0} → (X → Y) → Result X FaultKind → Result Y FaultKind → Type 0
Gives = GivesUnless OutOfMemory

-- for a part of a line whose reading takes no memory: the result is the one that it is to be
abbrev pub Meets : {X Y : Type 0} → (X → Y) → Result X FaultKind → Result Y FaultKind → Type 0
Meets view (Ok x) meant = meant ≡ Ok (view x)
Meets view (Err kind) meant = meant ≡ Err kind

-- for a script: the result is the one that it is to be, unless its fault is want of memory, which is at line 0
abbrev pub GivesScript : {X Y : Type 0} → (X → Y) → Result X ScriptFault → Result Y ScriptFault → Type 0
GivesScript = GivesUnless (record { line = 0; kind = OutOfMemory })
