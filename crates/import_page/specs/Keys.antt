-- The keys that follow the calls in the data of an import's page.
use Rattle.std.specs.Prelude.{◌≡◌, ℕ, Bool, List, ◌++◌, codes, length}
use Rattle.bench_core.specs.Limits.{Limits}
use Rattle.bench_core.specs.Machine.{Machine}
use Rattle.import_core.specs.Imports.{IsImportOf}
use Rattle.import_core.specs.Notes.{Note}
use Rattle.import_core.specs.Tables.{AllTables}
use Rattle.import_report.specs.Events.{Playing, after_events}
use Rattle.import_report.specs.Names.{shown_names}
use Rattle.import_report.specs.Scripts.{in_order, opening}
use Rattle.log_core.specs.Lines.{lines_of}
use Rattle.page_data.specs.Laws.{IsPlain}
use Rattle.page_data.specs.PageData.{texts_text}
use Rattle.import_page.specs.Entries.{AreEntries}

-- the nodes' own names, the values of the processes and of the words that were cut, and the events
unfoldable pub keys_text : AllTables → List ℕ → List ℕ
keys_text t entries =
    codes ",\"names\":[" ++ texts_text 0 t.nodes ++ codes "],\"pids\":[" ++ texts_text 0 t.pids ++ codes "],\"cut\":[" ++ texts_text 0 t.longs ++
    codes "],\"events\":[" ++ entries ++ codes "]"

-- where the import starts: a fresh bench of its nodes
abbrev pub start_of : Limits → AllTables → Playing
start_of limits t = opening limits (shown_names t.nodes) (length t.messages)

-- the bench that the events of an input leave, and the keys that they give
pub record IsShownOf (lenient : Bool) (limits : Limits) (bytes : List ℕ) (bench : Machine) (keys left_out : List ℕ) : Type 0 where
  pub tables : AllTables
  pub notes : List Note
  pub order : List ℕ
  pub import : IsImportOf lenient bytes tables notes order left_out
  pub left : bench ≡ (after_events (start_of limits tables) (in_order notes order)).machine
  pub entries : List ℕ
  pub told : AreEntries (lines_of bytes) (start_of limits tables) 0 (in_order notes order) entries
  pub keys_are : keys ≡ keys_text tables entries

-- no `<` stands in the keys
abbrev pub PlainLaw : Type 0
PlainLaw = (lenient : Bool) (limits : Limits) (bytes : List ℕ) (bench : Machine) (keys left_out : List ℕ) →
    IsShownOf lenient limits bytes bench keys left_out → IsPlain keys
