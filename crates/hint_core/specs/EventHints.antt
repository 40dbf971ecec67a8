-- Which hint a fault of events has.
use Rattle.std.specs.Prelude.{◌≡◌, ◌⊎◌, ℕ, ◌-◌, ◌==◌, List, Option, Some, None, is_some, option_map, slice_get, codes, if◌then◌else◌}
use Rattle.grammar_core.specs.Words.{is_text, lines_of}
use Rattle.serde_json.specs.Data.{Data}
use Rattle.log_core.specs.Events.{text_in}
use Rattle.log_core.specs.Lines.{HasNoValue, IsValueOf}
use Rattle.log_core.specs.declared.line_fault.LineFault.TheVariants as lines
use Rattle.import_core.specs.declared.fault.FaultKind.{FaultKind}
use Rattle.import_core.specs.declared.fault.FaultKind.TheVariants.{TooLong, NotJson, BadEvent, TooManyNodes, NoNodes, Twice, NeverSent, Circle, OutOfMemory}
use Rattle.import_core.specs.declared.fault.ImportFault.{ImportFault}
use Rattle.hint_core.specs.Hints.{Hint, Plain, About, line_of}
use Rattle.hint_core.specs.EventForms.{event_form}
use Rattle.hint_core.specs.Sessions.{begins_object, is_marked}

-- BadEvent: the hint tells what the line's value lacks

-- the hint about a word that no event has; the word is shown if it is text
unfoldable pub unknown_event : List ℕ → Hint
unknown_event verb =
    if is_text verb then About (codes "no event is called ") verb (codes "; `import --help` has them all")
    else Plain (codes "no event has that word under `event`; `import --help` has them all")

-- the hint with the keys of the event of this word, or that no event has this word
abbrev pub form_hint : List ℕ → Option (List ℕ) → Hint
form_hint verb (Some form) = Plain form
form_hint verb None = unknown_event verb

abbrev pub verb_hint : Option (List ℕ) → Hint
verb_hint (Some verb) = form_hint verb (event_form verb)
verb_hint None = Plain (codes "the object has no `event` that is a string, as `join` or `deliver`")

unfoldable pub value_hint : Data → Hint
value_hint d =
    if is_some (text_in (codes "node") d) then verb_hint (text_in (codes "event") d)
    else Plain (codes "each line is an object with `node`, a string, and `event`")

-- the hint of a line that has a value but is no event; there is none if the line is blank, is too long or is no JSON
abbrev pub IsEventHint : List ℕ → Option (List ℕ) → Type 0
IsEventHint line (Some hint) = (d : Data) × IsValueOf line (Some d) × (hint ≡ line_of (value_hint d))
IsEventHint line None = IsValueOf line None ⊎ HasNoValue line lines.TooLong ⊎ HasNoValue line lines.NotJson

-- NotJson: the hint depends on how the line begins
unfoldable pub json_line_hint : List ℕ → Hint
json_line_hint line =
    if is_marked line then Plain (codes "the line begins with a byte order mark; save the events without one")
    else (if begins_object line then Plain (codes "each line is one whole JSON object, in double quotes, with nothing behind it")
    else Plain (codes "each line is one JSON object, and this one doesn't begin with `{`"))

-- the hints of the other kinds of fault; a fault of no line is at line 0
unfoldable pub kind_hint : ℕ → FaultKind → Option Hint
kind_hint line TooLong =
    if line == 0 then Some (Plain (codes "a script has at most 1048576 bytes; `--as session` and `--as page` may be longer"))
    else Some (Plain (codes "a line of events has at most 1048576 bytes"))
kind_hint line TooManyNodes = Some (Plain (codes "a bench has at most 32 nodes, and the lines up to this one name more"))
kind_hint line NoNodes = Some (Plain (codes "no line has an event that can be taken"))
kind_hint line Twice = Some (Plain (codes "its node sent that `message` before; each message of a node has a value of its own"))
kind_hint line NeverSent = Some (Plain (codes "no line sends that message; is it spelled as at its send? `--lenient` leaves such lines out"))
kind_hint line Circle = Some (Plain (codes "no order is possible; are each node's events in the order in which it did them?"))
kind_hint line NotJson = None
kind_hint line BadEvent = None
kind_hint line OutOfMemory = None

abbrev pub IsEventHintAt : Option (List ℕ) → Option (List ℕ) → Type 0
IsEventHintAt None hint = hint ≡ None
IsEventHintAt (Some line) hint = IsEventHint line hint

abbrev pub json_hint_at : Option (List ℕ) → Option (List ℕ)
json_hint_at line = option_map (λ l. line_of (json_line_hint l)) line

-- the hint of the first fault of events
abbrev pub IsImportHint : List ℕ → ImportFault → Option (List ℕ) → Type 0
IsImportHint bytes fault hint = by fault.kind
  where
    line : Option (List ℕ)
    line = slice_get (lines_of bytes) (fault.line - 1)

    by : FaultKind → Type 0
    by BadEvent = IsEventHintAt line hint
    by NotJson = hint ≡ json_hint_at line
    by kind = hint ≡ option_map line_of (kind_hint fault.line kind)
