-- The script of an import.
use Rattle.std.specs.Prelude.{◌≡◌, ◌⊎◌, ℕ, ◌<◌, ◌≤◌, Bool, List, [], ◌++◌, length, map, replicate, codes, Ok}
use Rattle.std.specs.List.{flat_map}
use Rattle.bench_core.specs.Limits.{Limits}
use Rattle.bench_core.specs.Machine.{Machine, opening_machine}
use Rattle.bench_core.specs.NameList.{Texts}
use Rattle.grammar_core.specs.Grammar.{longest_script, script_of}
use Rattle.grammar_core.specs.Scripts.{Command, Line, Script}
use Rattle.run_core.specs.Report.{played}
use Rattle.import_core.specs.declared.fault.FaultKind.TheVariants.{TooLong}
use Rattle.import_core.specs.declared.fault.ImportFault.{ImportFault}
use Rattle.import_core.specs.Tables.{AllTables}
use Rattle.import_core.specs.Notes.{Note}
use Rattle.import_core.specs.Imports.{IsImportOf, note_at}
use Rattle.import_core.specs.Faults.{IsImportFault}
use Rattle.import_report.specs.Names.{shown_names}
use Rattle.import_report.specs.Comments.{comments_text}
use Rattle.import_report.specs.Events.{Playing, after_events, ended, events_text, events_commands}

unfoldable pub spaced_names : Texts → List ℕ
spaced_names names = flat_map (λ name. codes " " ++ name) names

unfoldable pub nodes_line : Texts → List ℕ
nodes_line names = codes "nodes" ++ spaced_names names

-- the notes in this order, which has their places from 0
abbrev pub in_order : List Note → List ℕ → List Note
in_order notes order = map (note_at notes) order

-- a fresh bench of these nodes, and no message sent yet
abbrev pub opening : Limits → Texts → ℕ → Playing
opening limits names messages = record { machine = opening_machine names limits; numbers = replicate messages 0 }

-- the script: the nodes, what stands for what, and the events
unfoldable pub script_text : Bool → Limits → Texts → AllTables → List Note → List ℕ
script_text told limits names t notes =
    ended (nodes_line names) ++ (comments_text names t ++ events_text told names (opening limits names (length t.messages)) notes)

abbrev pub commands_of : List Line → List Command
commands_of lines = map (λ line. line.command) lines

-- the text is read as a script of these nodes which asks these commands
pub record IsReadAs (text : List ℕ) (names : Texts) (asked : List Command) : Type 0 where
  pub script : Script
  pub read : script_of text ≡ Ok script
  pub cast : script.cast ≡ record { nodes = names; consoles = [] }
  pub commands : commands_of script.lines ≡ asked

-- the text is the script of these events in their order; it isn't too long, and is read as a script that asks what they ask
pub record IsScriptOf (told : Bool) (limits : Limits) (names : Texts) (t : AllTables) (notes : List Note) (text : List ℕ) : Type 0 where
  pub is : text ≡ script_text told limits names t notes
  pub short : length text ≤ longest_script
  pub read : IsReadAs text names (events_commands (opening limits names (length t.messages)) notes)

-- the script of an input, the bench that it leaves when it is played, and the lines that were left out
pub record IsImported (lenient told : Bool) (limits : Limits) (bytes text : List ℕ) (bench : Machine) (left_out : List ℕ) : Type 0 where
  pub tables : AllTables
  pub notes : List Note
  pub order : List ℕ
  pub import : IsImportOf lenient bytes tables notes order left_out
  pub script : IsScriptOf told limits (shown_names tables.nodes) tables (in_order notes order) text
  pub left : bench ≡ played limits script.read.script

-- the bench that the events of an input leave, however long their script would be
pub record IsBenchOf (lenient : Bool) (limits : Limits) (bytes : List ℕ) (bench : Machine) (left_out : List ℕ) : Type 0 where
  pub tables : AllTables
  pub notes : List Note
  pub order : List ℕ
  pub import : IsImportOf lenient bytes tables notes order left_out
  pub left : bench ≡ (after_events (opening limits (shown_names tables.nodes) (length tables.messages)) (in_order notes order)).machine

-- the script of these events is too long to be read
abbrev pub IsTooLong : Bool → Limits → Texts → AllTables → List Note → Type 0
IsTooLong told limits names t notes = longest_script < length (script_text told limits names t notes)

-- the input can be imported, but its script is too long
pub record IsLongImport (lenient told : Bool) (limits : Limits) (bytes : List ℕ) : Type 0 where
  pub tables : AllTables
  pub notes : List Note
  pub order : List ℕ
  pub left_out : List ℕ
  pub import : IsImportOf lenient bytes tables notes order left_out
  pub long : IsTooLong told limits (shown_names tables.nodes) tables (in_order notes order)

-- why there is no script: the input can't be imported, or the script is too long
abbrev pub IsRefused : Bool → Bool → Limits → List ℕ → ImportFault → Type 0
IsRefused lenient told limits bytes fault =
    IsImportFault lenient bytes fault ⊎ ((fault ≡ record { line = 0; kind = TooLong }) × IsLongImport lenient told limits bytes)
