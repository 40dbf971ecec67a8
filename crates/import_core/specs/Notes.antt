-- The events of a log, as they are ordered and played.
use Rattle.std.specs.Prelude.{◌≡◌, ℕ, ◌<◌, true, List, map, Option, Some, None, option_map}
use Rattle.std.specs.List.{AllZip}
use Rattle.dots_core.specs.Names.{most_names}
use Rattle.diff_core.specs.Rows.{Row}
use Rattle.event_order.specs.declared.logged.Logged.{Logged}
use Rattle.node_core.specs.Operations.{Operation, delivers, plain}
use Rattle.log_core.specs.Events as log
use Rattle.log_core.specs.Lines.{Numbered}
use Rattle.import_core.specs.declared.notes.Noted as code
use Rattle.import_core.specs.Tables.{AllTables, IsNodeOf}
use Rattle.import_core.specs.Steps.{IsStepOf, IsSentOf, is_online}
use Rattle.import_core.specs.Listed.{IsListOf}

-- of an event: the number of its line, what an order needs to know of it, the step that stands for it, if there is one, and the rows
-- that it lists
pub record Note : Type 0 where
  pub number : ℕ
  pub logged : Logged
  pub step : Option Operation
  pub rows : List Row

abbrev pub note_of : {X : Type 0} → code.Noted X → Note
note_of n = record { number = n.number; logged = n.logged; step = option_map plain n.step; rows = n.rows.items }

-- the message that a step takes
abbrev pub message_of : ℕ × ℕ → ℕ
message_of taken = taken.1

abbrev pub awaited : Option Operation → Option ℕ
awaited None = None
awaited (Some step) = option_map message_of (delivers step)

-- the step stands for the event; an event that lists rows has none
abbrev pub IsMaybeStepOf : AllTables → log.Event → Option Operation → Type 0
IsMaybeStepOf t event None = is_online event ≡ true
IsMaybeStepOf t event (Some step) = IsStepOf t event step

pub record IsNoteOf (t : AllTables) (event : Numbered) (note : Note) : Type 0 where
  pub number : note.number ≡ event.number
  pub node : IsNodeOf t event.line.node note.logged.node
  pub few : note.logged.node < most_names
  pub step : IsMaybeStepOf t event.line.event note.step
  pub waits : note.logged.waits ≡ awaited note.step
  pub sends : IsSentOf t note.logged.node event.line.event note.logged.sends
  pub rows : IsListOf t event.line.event note.rows

-- the notes of all events, one for each
abbrev pub AreNotesOf : AllTables → List Numbered → List Note → Type 0
AreNotesOf t events notes = AllZip (IsNoteOf t) events notes

abbrev pub logged_of : List Note → List Logged
logged_of notes = map (λ n. n.logged) notes
