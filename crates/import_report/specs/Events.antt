-- The line of an event in a script, what it asks, and the bench after it.
use Rattle.std.specs.Prelude.{ℕ, ◌^◌, ◌&&◌, nat_lt, if◌then◌else◌, Bool, true, false, List, [], ◌∷◌, ◌++◌, length, codes, decimal, slice_index, slice_set, Option, Some, None, option_map}
use Rattle.std.specs.List.{list_all}
use Rattle.std.specs.FinSet as set
use Rattle.node_core.specs.Nodes.{Node}
use Rattle.node_core.specs.Operations.{Operation, Extract, Deliver, Answer}
use Rattle.bench_core.specs.declared.reply.Reply.{Reply}
use Rattle.bench_core.specs.declared.reply.Reply.TheVariants.{Taken}
use Rattle.bench_core.specs.Acts.{Do}
use Rattle.bench_core.specs.Machine.{Machine}
use Rattle.bench_core.specs.NameList.{Texts}
use Rattle.grammar_core.specs.Scripts.{Command, Call, Show}
use Rattle.report_core.specs.ActTexts.{after_act, reply_of}
use Rattle.report_core.specs.Rows.{name_at}
use Rattle.report_core.specs.Shown.{node_of}
use Rattle.report_core.specs.StepText.{act_line}
use Rattle.import_core.specs.Notes.{Note}

-- a bench, and the number of each message in its sender's outbox, or 0 if it was not sent
pub record Playing : Type 0 where
  pub machine : Machine
  pub numbers : List ℕ

-- the number of a message in its sender's outbox; none if it is 0, as the message was not sent, or has more than 64 bits
abbrev pub sent_number : ℕ → Option ℕ
sent_number number = if nat_lt 0 number && nat_lt number (2 ^ 64) then Some number else None

abbrev pub number_at : List ℕ → ℕ → Option ℕ
number_at numbers message = sent_number (slice_index numbers message)

-- the step as the bench is asked it, with the message's number in the outbox; `None` if that message was not sent, or if an
-- extract names no node
abbrev pub asked : List ℕ → Operation → Option Operation
asked numbers (Extract names) = if list_all (λ name. nat_lt name 0) (set.items names) then None else Some (Extract names)
asked numbers (Deliver sender message) = option_map (λ number. Deliver sender number) (number_at numbers message)
asked numbers (Answer sender message) = option_map (λ number. Answer sender number) (number_at numbers message)
asked numbers step = Some step

abbrev pub outbox_length : Option Node → ℕ
outbox_length None = 0
outbox_length (Some node) = length node.outbox

-- once a step was taken, the message that it sends has the last number of its sender's outbox
abbrev pub numbers_after : Machine → List ℕ → ℕ → Option ℕ → Reply → List ℕ
numbers_after m numbers node (Some message) (Taken step) = slice_set numbers message (outbox_length (node_of m node))
numbers_after m numbers node _ _ = numbers

-- the bench after a step of a node that sends this message, if any
unfoldable pub after_step : Playing → ℕ → Option ℕ → Operation → Playing
after_step p node sends step = record {
  machine = after_act p.machine node (Do step);
  numbers = numbers_after (after_act p.machine node (Do step)) p.numbers node sends (reply_of p.machine node (Do step));
}

-- what an event asks: the node's list, a step, or nothing
pub data Asked : Type 0 where
  list : Asked
  nothing : Asked
  step : Operation → Asked

abbrev pub step_or_nothing : Option Operation → Asked
step_or_nothing None = nothing
step_or_nothing (Some operation) = step operation

abbrev pub asked_by : List ℕ → Option Operation → Asked
asked_by numbers None = list
asked_by numbers (Some operation) = step_or_nothing (asked numbers operation)

-- `# line L`
abbrev pub mark_line : ℕ → List ℕ
mark_line number = codes "# line " ++ decimal number

-- the line for an event: `show NODE`, the step, or a comment
abbrev pub line_for : Texts → Note → Asked → List ℕ
line_for names note list = codes "show " ++ name_at names note.logged.node
line_for names note nothing = mark_line note.number ++ codes ": its message was not sent"
line_for names note (step operation) = act_line names note.logged.node operation

abbrev pub after_asked : Playing → Note → Asked → Playing
after_asked p note list = p
after_asked p note nothing = p
after_asked p note (step operation) = after_step p note.logged.node note.logged.sends operation

abbrev pub commands_for : Note → Asked → List Command
commands_for note list = Show note.logged.node ∷ []
commands_for note nothing = []
commands_for note (step operation) = Call note.logged.node (Do operation) ∷ []

unfoldable pub event_line : Texts → Playing → Note → List ℕ
event_line names p note = line_for names note (asked_by p.numbers note.step)

unfoldable pub after_event : Playing → Note → Playing
after_event p note = after_asked p note (asked_by p.numbers note.step)

unfoldable pub event_commands : Playing → Note → List Command
event_commands p note = commands_for note (asked_by p.numbers note.step)

-- a line with its line feed
abbrev pub ended : List ℕ → List ℕ
ended line = line ++ codes "\n"

-- `# line L`, if lines are to be told
abbrev pub mark_text : Bool → ℕ → List ℕ
mark_text false number = []
mark_text true number = ended (mark_line number)

unfoldable pub event_text : Bool → Texts → Playing → Note → List ℕ
event_text told names p note = mark_text told note.number ++ ended (event_line names p note)

-- the text of events one after another
unfoldable pub events_text : Bool → Texts → Playing → List Note → List ℕ
events_text told names p [] = []
events_text told names p (note ∷ notes) = event_text told names p note ++ events_text told names (after_event p note) notes

-- the bench after these events
unfoldable pub after_events : Playing → List Note → Playing
after_events p [] = p
after_events p (note ∷ notes) = after_events (after_event p note) notes

-- the commands of events one after another
unfoldable pub events_commands : Playing → List Note → List Command
events_commands p [] = []
events_commands p (note ∷ notes) = event_commands p note ++ events_commands (after_event p note) notes
