-- What an input gives: the notes of its events, and an order of them.
use Rattle.std.specs.Prelude.{◌≡◌, ℕ, ◌^◌, ◌<◌, ◌≤◌, length, List, [], ◌∷◌, ◌++◌, slice_index_or, Bool, Option, Some, None}
use Rattle.dots_core.specs.Names.{most_names}
use Rattle.event_order.specs.Ordering.{IsOrdered, no_event}
use Rattle.log_core.specs.Events.{Line}
use Rattle.log_core.specs.Lines.{Numbered, Say, Says, lines_of}
use Rattle.import_core.specs.Tables.{AllTables, no_tables}
use Rattle.import_core.specs.Lenient.{Stay}
use Rattle.import_core.specs.Notes.{Note, IsNoteOf, AreNotesOf, logged_of}
use Rattle.import_core.specs.Sights.{SeesValues, pids_on, words_on}
use Rattle.import_core.specs.Seen.{names_on, with_texts}

-- these are the notes of the events that the lines have
pub record AreNoted (t : AllTables) (lines : List (List ℕ)) (notes : List Note) : Type 0 where
  pub events : List Numbered
  pub say : Say 1 lines events
  pub noted : AreNotesOf t events notes

-- the note of a line, or none if the line says no event
abbrev pub IsNoted : AllTables → ℕ → List ℕ → Option Note → Type 0
IsNoted t number line None = Says line None
IsNoted t number line (Some note) = (event : Line) × Says line (Some event) × IsNoteOf t (record { number = number; line = event }) note

-- the notes, and this one after them, if there is one
abbrev pub with_note : List Note → Option Note → List Note
with_note notes None = notes
with_note notes (Some note) = notes ++ note ∷ []

abbrev pub AddsNote : AllTables → ℕ → List ℕ → List Note → List Note → Type 0
AddsNote t number line old new = (note : Option Note) × IsNoted t number line note × (new ≡ with_note old note)

-- a note of nothing, which stands for one that isn't there
abbrev pub no_note : Note
no_note = record { number = 0; logged = no_event; step = None; rows = [] }

abbrev pub note_at : List Note → ℕ → Note
note_at notes place = slice_index_or notes place no_note

abbrev pub number_at : List Note → ℕ → ℕ
number_at notes place = (note_at notes place).number

-- the notes of the input's events that stay, of which there is at least one; the lines of those that are left out; the nearest order
-- of those that stay; the nodes, which are those that the lines name, by first sight, and at most 32; and the processes and the cut
-- words, numbered by first sight, too
pub record IsImportOf (lenient : Bool) (bytes : List ℕ) (t : AllTables) (notes : List Note) (order left_out : List ℕ) : Type 0 where
  pub all : List Note
  pub noted : AreNoted t (lines_of bytes) all
  pub stay : Stay lenient all notes left_out
  pub ordered : IsOrdered (logged_of notes) order
  pub some : 0 < length notes
  pub lines : length (lines_of bytes) < 2 ^ 64
  pub nodes : t.nodes ≡ with_texts [] (names_on (lines_of bytes))
  pub few : length t.nodes ≤ most_names
  pub values : SeesValues no_tables t (pids_on (lines_of bytes)) (words_on (lines_of bytes))
