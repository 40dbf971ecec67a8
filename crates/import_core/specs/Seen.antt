-- The nodes that lines name, by first sight.
use Rattle.std.specs.Prelude.{◌≡◌, ◌<◌, ℕ, fold, length, List, [], ◌∷◌, ◌++◌, Option, Some, None, if◌then◌else◌}
use Rattle.std.specs.List.{list_any, flat_map}
use Rattle.std.specs.Option.{option_and_then}
use Rattle.std.specs.Str.{bytes_eq}
use Rattle.serde_json.specs.Data.{Items, no_items, item}
use Rattle.serde_json.specs.Find.{as_str}
use Rattle.serde_json.specs.Read.{read}
use Rattle.dots_core.specs.Names.{most_names}
use Rattle.bench_core.specs.NameList.{Texts}
use Rattle.log_core.specs.Events as log
use Rattle.log_core.specs.Lines.{is_blank}
use Rattle.import_core.specs.Tables.{AllTables}

-- the texts, and this one after them, if it is new
unfoldable pub with_text : Texts → List ℕ → Texts
with_text texts text = if list_any (bytes_eq text) texts then texts else texts ++ text ∷ []

-- the texts, and after them each text of `more` that isn't among them yet
abbrev pub with_texts : Texts → Texts → Texts
with_texts texts more = fold with_text texts more

-- the nodes of the later tables are those of the earlier ones, and after them each of these names that isn't among them yet, by first
-- sight
abbrev pub SeesNodes : AllTables → AllTables → Texts → Type 0
SeesNodes earlier later names = later.nodes ≡ with_texts earlier.nodes names

-- the nodes of the earlier tables and those of these names that aren't among them are more than `most_names`
abbrev pub HasTooMany : AllTables → Texts → Type 0
HasTooMany earlier names = most_names < length (with_texts earlier.nodes names)

abbrev pub text_if : Option (List ℕ) → Texts
text_if None = []
text_if (Some text) = text ∷ []

abbrev pub node_if : Option log.Row → Texts
node_if None = []
node_if (Some row) = row.node ∷ []

-- the nodes that an extract names
abbrev pub names_among : Items → Texts
names_among no_items = []
names_among (item d ds) = text_if (as_str d) ++ names_among ds

-- the nodes that the listed rows among these values name
abbrev pub nodes_among : Items → Texts
nodes_among no_items = []
nodes_among (item d ds) = node_if (log.row_at d) ++ nodes_among ds

-- the nodes besides its own that an event names because it sends or takes a message
abbrev pub message_names : log.Event → Texts
message_names (log.extract names message) = names_among names
message_names (log.deliver from message) = from ∷ []
message_names (log.answer from message sends) = from ∷ []
message_names event = []

-- the node whose status an event sets
abbrev pub status_names : log.Event → Texts
status_names (log.up name) = name ∷ []
status_names (log.down name) = name ∷ []
status_names (log.permdown name) = name ∷ []
status_names event = []

-- the nodes that an event names in rows that it lists
abbrev pub row_names : log.Event → Texts
row_names (log.online rows) = nodes_among rows
row_names event = []

abbrev pub step_names : log.Event → Texts
step_names event = message_names event ++ status_names event

-- an event's own node, and after it the nodes that it names
abbrev pub names_in : log.Line → Texts
names_in line = line.node ∷ (step_names line.event ++ row_names line.event)

-- what a line says, if it says an event
unfoldable pub said : List ℕ → Option log.Line
said line = if is_blank line then None else option_and_then log.line_at (read line)

abbrev pub names_if : Option log.Line → Texts
names_if None = []
names_if (Some line) = names_in line

abbrev pub names_on : List (List ℕ) → Texts
names_on lines = flat_map (λ line. names_if (said line)) lines
