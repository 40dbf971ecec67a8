-- The rows that a real node listed, as rows of the bench.
use Rattle.std.specs.Prelude.{◌≡◌, List, [], ◌∷◌, ◌++◌, Option, Some, None}
use Rattle.serde_json.specs.Data.{Items, no_items, item}
use Rattle.diff_core.specs.Rows.{Row}
use Rattle.log_core.specs.Events as log
use Rattle.import_core.specs.Tables.{AllTables, IsNumberOf, IsWordOf, IsNodeOf}

-- the row stands for the listed one, at the clock 0
pub record IsRowOf (t : AllTables) (listed : log.Row) (row : Row) : Type 0 where
  pub node : IsNodeOf t listed.node row.name
  pub pid : IsNumberOf t.pids listed.tracked.pid row.pid
  pub topic : IsWordOf t.longs listed.tracked.topic row.topic
  pub key : IsWordOf t.longs listed.tracked.key row.key
  pub metadata : IsWordOf t.longs listed.tracked.meta row.metadata
  pub clock : row.clock ≡ 0

-- `Rest` holds of these rows; or, if there is a listed row, of these rows with the row that stands for it at their end
abbrev pub RowIn : AllTables → List Row → Option log.Row → (List Row → Type 0) → Type 0
RowIn t found None Rest = Rest found
RowIn t found (Some listed) Rest = (row : Row) × IsRowOf t listed row × Rest (found ++ row ∷ [])

-- these rows, and after them those that stand for the listed rows among the values
abbrev pub AreRowsOf : AllTables → List Row → Items → List Row → Type 0
AreRowsOf t found no_items rows = rows ≡ found
AreRowsOf t found (item d ds) rows = RowIn t found (log.row_at d) (λ more. AreRowsOf t more ds rows)

-- the rows that stand for those that an event lists; none if the event is no list of rows
abbrev pub IsListOf : AllTables → log.Event → List Row → Type 0
IsListOf t (log.online rows) listed = AreRowsOf t [] rows listed
IsListOf t event listed = listed ≡ []
