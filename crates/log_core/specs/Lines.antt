-- The lines of an input, and what each says.
use Rattle.std.specs.Prelude.{◌≡◌, ℕ, ◌+◌, ◌<◌, ◌≤◌, ◌==◌, ◌||◌, Bool, true, false, List, [], ◌∷◌, ◌++◌, length, Option, Some, None, IsUtf8}
use Rattle.std.specs.List.{list_all, slice_split}
use Rattle.serde_json.specs.Data.{Data}
use Rattle.serde_json.specs.Read.{read}
use Rattle.log_core.specs.declared.line_fault.LineFault.{LineFault}
use Rattle.log_core.specs.declared.line_fault.LineFault.TheVariants.{TooLong, NotJson, OutOfMemory}
use Rattle.log_core.specs.Events.{Line, line_at}

-- the lines, separated by line feeds; after a last line feed stands an empty line, which says nothing
abbrev pub lines_of : List ℕ → List (List ℕ)
lines_of bytes = slice_split (λ byte. byte == 10) bytes

-- white space: a space, a tab or a carriage return; a blank line has no other bytes
abbrev pub is_space : ℕ → Bool
is_space byte = (byte == 32) || (byte == 9) || (byte == 13)

abbrev pub is_blank : List ℕ → Bool
is_blank line = list_all is_space line

-- the most bytes that the line of an event may have, without its line feed
abbrev pub longest_event : ℕ
longest_event = 1048576

-- the line isn't too long and has this value; a blank line has none
abbrev pub IsValueOf : List ℕ → Option Data → Type 0
IsValueOf line None = (length line ≤ longest_event) × (is_blank line ≡ true)
IsValueOf line (Some d) = (length line ≤ longest_event) × (is_blank line ≡ false) × IsUtf8 line × (read line ≡ Some d)

-- why no value of the line is given; that memory was refused says nothing of the line
abbrev pub HasNoValue : List ℕ → LineFault → Type 0
HasNoValue line TooLong = longest_event < length line
HasNoValue line NotJson = (length line ≤ longest_event) × (is_blank line ≡ false) × (IsUtf8 line → read line ≡ None)
HasNoValue line OutOfMemory = Unit {0}

-- the line says this event, or nothing
abbrev pub Says : List ℕ → Option Line → Type 0
Says line None = IsValueOf line None
Says line (Some event) = (d : Data) × IsValueOf line (Some d) × (line_at d ≡ Some event)

-- the line's value is no event
abbrev pub SaysNoEvent : List ℕ → Type 0
SaysNoEvent line = (d : Data) × IsValueOf line (Some d) × (line_at d ≡ None)

-- an event with the number of its line
pub record Numbered : Type 0 where
  pub number : ℕ
  pub line : Line

abbrev pub numbered_with : ℕ → Option Line → List Numbered
numbered_with number None = []
numbered_with number (Some event) = record { number = number; line = event } ∷ []

-- these lines, numbered from this number on, say these events
abbrev pub Say : ℕ → List (List ℕ) → List Numbered → Type 0
Say number [] events = events ≡ []
Say number (line ∷ lines) events = (said : Option Line) × (rest : List Numbered) × Says line said × (events ≡ numbered_with number said ++ rest)
    × Say (number + 1) lines rest
