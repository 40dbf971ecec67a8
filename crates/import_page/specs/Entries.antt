-- The events of logs as JSON, an object for each: its line and its time, and, if it is no call, what it tells.
use Rattle.std.specs.Prelude.{◌≡◌, ℕ, ◌+◌, ◌-◌, List, [], ◌∷◌, ◌++◌, codes, decimal, map, slice_index_or, Option, Some, None}
use Rattle.bench_core.specs.Machine.{Machine}
use Rattle.diff_core.specs.Rows.{Row}
use Rattle.import_core.specs.Notes.{Note}
use Rattle.import_report.specs.Events.{Asked, Playing, after_event, asked_by, list, nothing, step}
use Rattle.listed_core.specs.Against.{AreOnly, unclocked}
use Rattle.page_data.specs.Json.{comma_at, number_key, text_key}
use Rattle.page_data.specs.PageData.{word_text}
use Rattle.report_core.specs.Shown.{rows_at}
use Rattle.import_page.specs.Times.{IsTimeOn}

-- the line of this number, from 1
abbrev pub line_of : List (List ℕ) → ℕ → List ℕ
line_of lines number = slice_index_or lines (number - 1) []

abbrev pub time_key : Option (List ℕ) → List ℕ
time_key None = []
time_key (Some time) = text_key (codes "time") time

-- `{"line":L,"time":"TIME"`, or without the time if there is none; after a comma, except at place 0
unfoldable pub head_text : ℕ → ℕ → Option (List ℕ) → List ℕ
head_text place number time = comma_at place ++ codes "{\"line\":" ++ decimal number ++ time_key time

-- `[NAME,"PID"`
unfoldable pub row_head : ℕ → ℕ → List ℕ
row_head name pid = codes "[" ++ decimal name ++ codes ",\"" ++ decimal pid ++ codes "\""

-- `[NAME,"PID","TOPIC","KEY","META"]`
unfoldable pub row_text : Row → List ℕ
row_text row = row_head row.name row.pid ++ word_text row.topic ++ word_text row.key ++ word_text row.metadata ++ codes "]"

-- the rows from this place on, separated by commas
unfoldable pub rows_text : ℕ → List Row → List ℕ
rows_text place [] = []
rows_text place (row ∷ rows) = comma_at place ++ row_text row ++ rows_text (place + 1) rows

-- what is told of a list of the node: the rows that only the bench has, and those that only the real node listed
unfoldable pub list_text : ℕ → List Row → List Row → List ℕ
list_text node ours theirs =
    number_key (codes "node") node ++ codes ",\"online\":[[" ++ rows_text 0 ours ++ codes "],[" ++ rows_text 0 theirs ++ codes "]]"

-- what is told of a step that isn't asked of the bench: the message that it takes was not sent, or it is an extract of no names
unfoldable pub unsent_text : ℕ → List ℕ
unsent_text node = number_key (codes "node") node ++ codes ",\"unsent\":true"

-- a list that a real node listed, compared with that of the bench
pub record IsListTold (note : Note) (bench : List Row) (text : List ℕ) : Type 0 where
  pub ours : List Row
  pub theirs : List Row
  pub ours_are : AreOnly ours (map unclocked bench) (map unclocked note.rows)
  pub theirs_are : AreOnly theirs (map unclocked note.rows) (map unclocked bench)
  pub text_is : text ≡ list_text note.logged.node ours theirs

-- what the object of an event tells beside its line and its time, by what the event asks; nothing for a step that is asked of the bench
abbrev pub IsAskedTold : Machine → Note → Asked → List ℕ → Type 0
IsAskedTold m note list text = IsListTold note (rows_at m note.logged.node) text
IsAskedTold m note nothing text = text ≡ unsent_text note.logged.node
IsAskedTold m note (step operation) text = text ≡ []

-- the object of the event at this place
pub record IsEntry (lines : List (List ℕ)) (p : Playing) (place : ℕ) (note : Note) (text : List ℕ) : Type 0 where
  pub time : Option (List ℕ)
  pub told : List ℕ
  pub time_is : IsTimeOn (line_of lines note.number) time
  pub told_is : IsAskedTold p.machine note (asked_by p.numbers note.step) told
  pub text_is : text ≡ head_text place note.number time ++ told ++ codes "}"

-- the objects of events one after another, from this place on
abbrev pub AreEntries : List (List ℕ) → Playing → ℕ → List Note → List ℕ → Type 0
AreEntries lines p place [] text = text ≡ []
AreEntries lines p place (note ∷ notes) text =
    (now : List ℕ) × (rest : List ℕ) × IsEntry lines p place note now × AreEntries lines (after_event p note) (place + 1) notes rest
    × (text ≡ now ++ rest)
