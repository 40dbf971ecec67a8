-- Why lines give no script.
use Rattle.std.specs.Prelude.{◌≡◌, ℕ, ◌+◌, ◌<◌, ◌≤◌, Bool, List, [], length, take, slice_index_or, Some}
use Rattle.dots_core.specs.Names.{most_names}
use Rattle.event_order.specs.declared.order_fault.OrderFault as order
use Rattle.event_order.specs.declared.order_fault.OrderFault.TheVariants as order_faults
use Rattle.event_order.specs.Ordering.{IsFaultOf}
use Rattle.log_core.specs.declared.line_fault.LineFault.{LineFault}
use Rattle.log_core.specs.declared.line_fault.LineFault.TheVariants as line_faults
use Rattle.log_core.specs.Events.{Line}
use Rattle.log_core.specs.Lines.{Says, SaysNoEvent, HasNoValue, lines_of}
use Rattle.import_core.specs.declared.note_fault.NoteFault.{NoteFault}
use Rattle.import_core.specs.declared.note_fault.NoteFault.TheVariants as note_faults
use Rattle.import_core.specs.declared.fault.FaultKind.{FaultKind}
use Rattle.import_core.specs.declared.fault.FaultKind.TheVariants.{TooLong, NotJson, BadEvent, TooManyNodes, NoNodes, Twice, NeverSent, Circle, OutOfMemory}
use Rattle.import_core.specs.declared.fault.ImportFault.{ImportFault}
use Rattle.bench_core.specs.NameList.{Texts}
use Rattle.import_core.specs.Tables.{AllTables}
use Rattle.import_core.specs.Notes.{Note, logged_of}
use Rattle.import_core.specs.Seen.{names_in, names_on, with_texts}
use Rattle.import_core.specs.Imports.{AreNoted, number_at}
use Rattle.import_core.specs.Lenient.{Stay}

abbrev pub kind_of_line : LineFault → FaultKind
kind_of_line line_faults.TooLong = TooLong
kind_of_line line_faults.NotJson = NotJson
kind_of_line line_faults.OutOfMemory = OutOfMemory

abbrev pub kind_of_note : NoteFault → FaultKind
kind_of_note note_faults.TooManyNodes = TooManyNodes
kind_of_note note_faults.OutOfMemory = OutOfMemory

-- the fault at this line; want of memory is at no line, which is line 0
abbrev pub fault_at : ℕ → FaultKind → ImportFault
fault_at line OutOfMemory = record { line = 0; kind = OutOfMemory }
fault_at line kind = record { line = line; kind = kind }

-- what is wrong with a line, if the lines before it name these nodes
abbrev pub IsWrong : Texts → List ℕ → FaultKind → Type 0
IsWrong nodes line TooLong = HasNoValue line line_faults.TooLong
IsWrong nodes line NotJson = HasNoValue line line_faults.NotJson
IsWrong nodes line BadEvent = SaysNoEvent line
IsWrong nodes line TooManyNodes = (event : Line) × Says line (Some event) × (most_names < length (with_texts nodes (names_in event)))
IsWrong nodes line NoNodes = ⊥
IsWrong nodes line Twice = ⊥
IsWrong nodes line NeverSent = ⊥
IsWrong nodes line Circle = ⊥
IsWrong nodes line OutOfMemory = Unit {0}

-- these nodes, and after them the others that the lines before this place name
abbrev pub nodes_before : Texts → List (List ℕ) → ℕ → Texts
nodes_before nodes lines place = with_texts nodes (names_on (take place lines))

-- the line at this place has that fault, and the lines before it have none
pub record IsFirstWrong (nodes : Texts) (lines : List (List ℕ)) (place : ℕ) (kind : FaultKind) : Type 0 where
  pub tables : AllTables
  pub notes : List Note
  pub there : place < length lines
  pub before : AreNoted tables (take place lines) notes
  pub few : length nodes ≤ most_names → length (nodes_before nodes lines place) ≤ most_names
  pub wrong : IsWrong (nodes_before nodes lines place) (slice_index_or lines place []) kind

-- a line has this fault, and the lines before it have none; or the fault is want of memory
abbrev pub IsLineFault : Texts → List (List ℕ) → ImportFault → Type 0
IsLineFault nodes lines fault = by fault.kind
  where
    first : Type 0
    first = (place : ℕ) × (fault.line ≡ place + 1) × IsFirstWrong nodes lines place fault.kind

    by : FaultKind → Type 0
    by OutOfMemory = Unit {0}
    by kind = first

-- the events of these notes have no order, for the reason that the fault names, at the line of the event that has it; or the fault is
-- want of memory
abbrev pub IsOrderFault : List Note → ImportFault → Type 0
IsOrderFault notes fault = by fault.kind
  where
    is : (ℕ → order.OrderFault) → Type 0
    is reason = (place : ℕ) × (fault.line ≡ number_at notes place) × IsFaultOf (logged_of notes) (reason place)

    by : FaultKind → Type 0
    by Twice = is order_faults.Twice
    by NeverSent = is order_faults.NeverSent
    by Circle = is order_faults.Circle
    by OutOfMemory = Unit {0}
    by kind = ⊥

-- there are no notes; or the events of these notes have no order
abbrev pub IsNotesFault : List Note → ImportFault → Type 0
IsNotesFault notes fault = by fault.kind
  where
    by : FaultKind → Type 0
    by NoNodes = (notes ≡ []) × (fault.line ≡ 0)
    by kind = IsOrderFault notes fault

-- no line has a fault, but no event stays, or those that stay have no order
pub record IsWholeFault (lenient : Bool) (bytes : List ℕ) (fault : ImportFault) : Type 0 where
  pub tables : AllTables
  pub all : List Note
  pub notes : List Note
  pub left_out : List ℕ
  pub noted : AreNoted tables (lines_of bytes) all
  pub stay : Stay lenient all notes left_out
  pub wrong : IsNotesFault notes fault

-- why the input can't be imported: the first fault of a line, or a fault of the whole
abbrev pub IsImportFault : Bool → List ℕ → ImportFault → Type 0
IsImportFault lenient bytes fault = by fault.kind
  where
    whole : Type 0
    whole = IsWholeFault lenient bytes fault

    by : FaultKind → Type 0
    by NoNodes = whole
    by Twice = whole
    by NeverSent = whole
    by Circle = whole
    by kind = IsLineFault [] (lines_of bytes) fault
