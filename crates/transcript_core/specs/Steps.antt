-- A report with the line of each call above what it printed.
use Rattle.std.specs.Prelude.{ℕ, ◌+◌, ◌==◌, Bool, true, false, List, [], ◌∷◌, ◌++◌, length, replicate, is_some, slice_get, slice_set, unwrap_or, codes, decimal, Option, Some, None, option_map}
use Rattle.std.specs.List.{fold}
use Rattle.journal_core.specs.Journals.{find_number}
use Rattle.bench_core.specs.declared.reply.Reply.{Reply}
use Rattle.bench_core.specs.declared.reply.Reply.TheVariants.{Taken, Undone, Refused}
use Rattle.bench_core.specs.Acts.{Action}
use Rattle.bench_core.specs.Limits.{Limits}
use Rattle.bench_core.specs.Machine.{Event, Machine, opening_machine}
use Rattle.bench_core.specs.NameList.{Texts}
use Rattle.grammar_core.specs.Casts.{Cast}
use Rattle.grammar_core.specs.Scripts.{Command, Call, Unwind, Show, Dots, Why, Journal, Script}
use Rattle.report_core.specs.Rows.{name_at}
use Rattle.run_core.specs.Report.{after_command, command_text, commands_of, played}
use Rattle.transcript_core.specs.Actors.{actor_name}
use Rattle.transcript_core.specs.Scripts.{call_line, calls_asked, cast_of}

-- who took steps back: at each step's number the actor who did, if anybody
abbrev pub Takers : Type 0
Takers = List (Option ℕ)

abbrev pub with_reply : Takers → ℕ → Reply → Takers
with_reply takers actor (Undone number) = slice_set takers number (Some actor)
with_reply takers actor _ = takers

abbrev pub with_taker : Takers → Event → Takers
with_taker takers e = with_reply takers e.actor e.reply

-- who took steps back by these events; no step has a greater number than there are calls
unfoldable pub takers_of : List Event → Takers
takers_of events = fold with_taker (replicate (length events + 1) None) events

abbrev pub taker_of : Takers → ℕ → Option ℕ
taker_of takers number = unwrap_or (slice_get takers number) None

-- `undone by ACTOR` after a step that was taken back
abbrev pub undone_text : Cast → ℕ → List ℕ
undone_text cast actor = codes "  undone by " ++ actor_name cast actor

abbrev pub taker_text : Cast → Option ℕ → List ℕ
taker_text cast None = []
taker_text cast (Some actor) = undone_text cast actor

-- the number of the step that was taken, or taken back; a dash for a call that was refused, or whose reply isn't recorded
abbrev pub number_text : Option Reply → List ℕ
number_text (Some (Taken number)) = decimal number ++ codes "  "
number_text (Some (Undone number)) = decimal number ++ codes "  "
number_text (Some (Refused fault)) = codes "-  "
number_text None = codes "-  "

abbrev pub note_text : Cast → Takers → Option Reply → List ℕ
note_text cast takers (Some (Taken number)) = taker_text cast (taker_of takers number)
note_text cast takers _ = []

-- a call as a line: before it the number of the step that it took or took back, or a dash; after it who took back the step that it took, if
-- anybody did
unfoldable pub head_line : Cast → Takers → ℕ → Action → Option Reply → List ℕ
head_line cast takers actor act reply = number_text reply ++ call_line cast actor act ++ note_text cast takers reply ++ codes "\n"

abbrev pub unwind_number : Bool → ℕ → List ℕ
unwind_number false number = codes "-  "
unwind_number true number = decimal number ++ codes "  "

-- the line above what a command printed, by the reply that was recorded for it, if any, and by whether it unwinds a step that remained
unfoldable pub command_head : Cast → Takers → Command → Option Reply → Bool → List ℕ
command_head cast takers (Call actor act) reply remains = head_line cast takers actor act reply
command_head cast takers (Unwind actor number) reply remains =
    unwind_number remains number ++ actor_name cast actor ++ codes " unwind " ++ decimal number ++ codes "\n"
command_head cast takers (Show node) reply remains = codes "show " ++ name_at cast.nodes node ++ codes "\n"
command_head cast takers (Dots node) reply remains = codes "dots " ++ name_at cast.nodes node ++ codes "\n"
command_head cast takers (Why number) reply remains = codes "why " ++ decimal number ++ codes "\n"
command_head cast takers Journal reply remains = codes "journal\n"

-- the reply that is recorded at this place, if any; a call whose reply isn't recorded takes no step, and takes none back
abbrev pub reply_at : List Event → ℕ → Option Reply
reply_at events place = option_map (λ e. e.reply) (slice_get events place)

-- the first reply that is recorded when the machine is asked the line, if any
abbrev pub recorded : Machine → Command → Option Reply
recorded m command = reply_at (after_command m command).state.history (length m.state.history)

-- whether the line unwinds a step that remains
abbrev pub unwinds_one : Machine → Command → Bool
unwinds_one m (Unwind actor number) = is_some (find_number m.state.remaining number)
unwinds_one m _ = false

abbrev pub byte_text : Bool → ℕ → List ℕ
byte_text true byte = 32 ∷ 32 ∷ byte ∷ []
byte_text false byte = byte ∷ []

-- the text with two spaces before each line; `begins` says that a line begins here
unfoldable pub indented : Bool → List ℕ → List ℕ
indented begins [] = []
indented begins (byte ∷ bytes) = byte_text begins byte ++ indented (byte == 10) bytes

unfoldable pub command_steps : Cast → Takers → Machine → Command → List ℕ
command_steps cast takers m command =
    command_head cast takers command (recorded m command) (unwinds_one m command) ++ indented true (command_text m command)

unfoldable pub steps_text : Cast → Takers → Machine → List Command → List ℕ
steps_text cast takers m [] = []
steps_text cast takers m (command ∷ commands) = command_steps cast takers m command ++ steps_text cast takers (after_command m command) commands

-- each line of a script above what it prints, if the script is played with these limits
unfoldable pub script_steps : Limits → Script → List ℕ
script_steps limits script =
    steps_text script.cast (takers_of (played limits script).state.history) (opening_machine script.cast.nodes limits) (commands_of script.lines)

-- each call that a bench recorded above what it printed, with these names of the bench's consoles
unfoldable pub bench_steps : Machine → Texts → List ℕ
bench_steps m consoles = steps_text (cast_of m consoles) (takers_of m.state.history) (opening_machine m.names m.limits) (calls_asked m)
