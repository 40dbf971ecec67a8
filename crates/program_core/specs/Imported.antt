-- What is printed of the events of logs, what goes to the errors, and why there is nothing.
use Rattle.std.specs.Prelude.{◌≡◌, ◌⊎◌, ℕ, ◌<◌, nat_lt, Bool, true, false, List, [], ◌++◌, length, take, codes, decimal, ⊤, Option, None, Some, Result, Ok, Err}
use Rattle.std.specs.Io.KnownBytes.{Appends, Keeps}
use Rattle.std.specs.List.{flat_map}
use Rattle.bench_core.specs.Limits.{Limits}
use Rattle.bench_core.specs.Machine.{Machine, config_of, free_places}
use Rattle.command_line.specs.declared.chosen.Form.{Form}
use Rattle.command_line.specs.declared.chosen.Form.TheVariants.{Session, Page}
use Rattle.import_core.specs.Faults.{IsImportFault}
use Rattle.import_core.specs.declared.fault.ImportFault.{ImportFault}
use Rattle.import_page.specs.Keys.{IsShownOf}
use Rattle.import_report.specs.Checks.{IsCheckOf}
use Rattle.import_report.specs.Scripts.{IsBenchOf, IsImported, IsRefused}
use Rattle.program_core.specs.Texts.{session_text}
use Rattle.program_core.specs.Views.{page_with}
use Rattle.program_core.specs.declared.fault.ProgramFault.{ProgramFault}
use Rattle.program_core.specs.declared.fault.ProgramFault.TheVariants as faults

-- whether the history of a bench has no place for one more step and its undo
abbrev pub is_full : Machine → Bool
is_full m = nat_lt (free_places (config_of m) m.state) 2

-- what is made of the events, by what was chosen: a check, which tells where the bench and the real nodes part; the session of the bench
-- that the events lead to; that bench's page, with what the logs tell besides its calls; or else the script of the events. And the lines
-- that are left out, and whether the bench in a session or on a page is full, so that later steps may be missing there
abbrev pub IsMade : Bool → Bool → Bool → Form → Limits → List ℕ → List ℕ → Bool → List ℕ → Bool → Type 0
IsMade true lines lenient form limits input text differs left_out full = IsCheckOf lenient limits input text differs left_out × (full ≡ false)
IsMade false lines lenient Session limits input text differs left_out full =
    (differs ≡ false) × (m : Machine) × IsBenchOf lenient limits input m left_out × (text ≡ session_text m) × (full ≡ is_full m)
IsMade false lines lenient Page limits input text differs left_out full =
    (differs ≡ false) × (m : Machine) × (keys : List ℕ) × IsShownOf lenient limits input m keys left_out × (text ≡ page_with m keys) × (full ≡ is_full m)
IsMade false lines lenient _ limits input text differs left_out full =
    (differs ≡ false) × (m : Machine) × IsImported lenient lines limits input text m left_out × (full ≡ false)

-- the text is what is printed, and `differs` says whether the bench and the real nodes part
abbrev pub PrintsImport : Bool → Bool → Bool → Form → Limits → List ℕ → Bool → List ℕ → Type 0
PrintsImport check lines lenient form limits input differs text =
    (left_out : List ℕ) × (full : Bool) × IsMade check lines lenient form limits input text differs left_out full

-- all of the text went out, and the result says whether the bench and the real nodes part; or, if the writing failed, its first
-- `written` bytes went out
abbrev pub EndsAsMade : List ℕ → Bool → Result (Unit {0}) ProgramFault → Option (List ℕ) → Option (List ℕ) → Type 0
EndsAsMade text differs (Ok _) old new = (differs ≡ false) × Appends old new text
EndsAsMade text differs (Err faults.Differs) old new = (differs ≡ true) × Appends old new text
EndsAsMade text differs (Err (faults.WriteFault written)) old new = (written < length text) × Appends old new (take written text)
EndsAsMade text differs (Err _) old new = ⊥

-- why the input can't be read as events: it has too many bytes, or a read failed, or memory was refused
abbrev pub RefusesEvents : List ℕ → ProgramFault → Type 0
RefusesEvents input faults.LongImport = 67108864 < length input
RefusesEvents input faults.ReadFault = ⊤
RefusesEvents input faults.OutOfMemory = ⊤
RefusesEvents input fault = ⊥

abbrev pub RefusesEventsAt : Option (List ℕ) → ProgramFault → Type 0
RefusesEventsAt None fault = ⊤
RefusesEventsAt (Some input) fault = RefusesEvents input fault

-- why nothing is made of the events: they can't be imported; or their script, if it is to be printed, is too long
abbrev pub IsUnmade : Bool → Bool → Bool → Form → Limits → List ℕ → ImportFault → Type 0
IsUnmade true lines lenient form limits input fault = IsImportFault lenient input fault
IsUnmade false lines lenient Session limits input fault = IsImportFault lenient input fault
IsUnmade false lines lenient Page limits input fault = IsImportFault lenient input fault
IsUnmade false lines lenient _ limits input fault = IsRefused lenient lines limits input fault

-- why nothing is printed of the input: nothing is made of its events, or it has too many bytes, or a read failed, or memory was refused
abbrev pub RefusesImport : Bool → Bool → Bool → Form → Limits → List ℕ → ProgramFault → Type 0
RefusesImport check lines lenient form limits input (faults.Import fault) = IsUnmade check lines lenient form limits input fault
RefusesImport check lines lenient form limits input faults.LongImport = 67108864 < length input
RefusesImport check lines lenient form limits input faults.ReadFault = ⊤
RefusesImport check lines lenient form limits input faults.OutOfMemory = ⊤
RefusesImport check lines lenient form limits input fault = ⊥

abbrev pub RefusesImportAt : Bool → Bool → Bool → Form → Limits → Option (List ℕ) → ProgramFault → Type 0
RefusesImportAt check lines lenient form limits None fault = ⊤
RefusesImportAt check lines lenient form limits (Some input) fault = RefusesImport check lines lenient form limits input fault

-- `presence_bench: line L: left out`
unfoldable pub left_line : ℕ → List ℕ
left_line line = codes "presence_bench: line " ++ decimal line ++ codes ": left out\n"

unfoldable pub left_lines : List ℕ → List ℕ
left_lines left_out = flat_map (λ line. left_line line) left_out

-- `presence_bench: the history is full: later steps are not in it`, if it is
unfoldable pub full_line : Bool → List ℕ
full_line true = codes "presence_bench: the history is full: later steps are not in it\n"
full_line false = []

-- a beginning of these lines went out
abbrev pub TellsLines : List ℕ → Bool → Option (List ℕ) → Option (List ℕ) → Type 0
TellsLines left_out full old new = (count : ℕ) × Appends old new (take count (left_lines left_out ++ full_line full))

-- all of these lines went out, unless a write failed
abbrev pub TellsAll : List ℕ → Bool → Bool → Option (List ℕ) → Option (List ℕ) → Type 0
TellsAll left_out full lost old new = lost ≡ false → Appends old new (left_lines left_out ++ full_line full)

-- to the errors went all lines that tell what is left out of what is made, and whether its bench is full, unless a write failed
abbrev pub TellsMade : Bool → Bool → Bool → Form → Limits → Option (List ℕ) → Bool → Option (List ℕ) → Option (List ℕ) → Type 0
TellsMade check lines lenient form limits None lost old new = ⊤
TellsMade check lines lenient form limits (Some input) lost old new =
    (text : List ℕ) × (differs : Bool) × (left_out : List ℕ) × (full : Bool)
    × IsMade check lines lenient form limits input text differs left_out full × TellsAll left_out full lost old new

-- to the errors went nothing, or a beginning of the lines that tell what is left out of what is made, and whether its bench is full
abbrev pub TellsMissing : Bool → Bool → Bool → Form → Limits → Option (List ℕ) → Option (List ℕ) → Option (List ℕ) → Type 0
TellsMissing check lines lenient form limits None old new = ⊤
TellsMissing check lines lenient form limits (Some input) old new =
    Keeps old new ⊎ ((text : List ℕ) × (differs : Bool) × (left_out : List ℕ) × (full : Bool)
    × IsMade check lines lenient form limits input text differs left_out full × TellsLines left_out full old new)
