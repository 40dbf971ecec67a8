-- The report of a script: the text of each line, as the machine gives it on the state before the line.
use Rattle.std.specs.Prelude.{ℕ, List, [], ◌∷◌, ◌++◌, map}
use Rattle.bench_core.specs.Limits.{Limits}
use Rattle.bench_core.specs.Machine.{Machine, Event, opening_machine}
use Rattle.report_core.specs.ActTexts.{act_text, after_act, after_unwind, unwind_text, why_text}
use Rattle.report_core.specs.Dots.{dots_text}
use Rattle.report_core.specs.Rows.{online_text}
use Rattle.report_core.specs.Shown.{node_of, rows_at}
use Rattle.report_core.specs.StepText.{journal_text}
use Rattle.grammar_core.specs.Scripts.{Command, Call, Unwind, Show, Dots, Why, Journal, Line, Script}

-- a command, and a script

unfoldable pub command_text : Machine → Command → List ℕ
command_text m (Call actor act) = act_text m actor act
command_text m (Unwind actor number) = unwind_text m actor number
command_text m (Show node) = online_text m.names node (rows_at m node)
command_text m (Dots node) = dots_text m.names (node_of m node)
command_text m (Why number) = why_text m number
command_text m Journal = journal_text m.names m.state.remaining

unfoldable pub after_command : Machine → Command → Machine
after_command m (Call actor act) = after_act m actor act
after_command m (Unwind actor number) = after_unwind m actor number
after_command m (Show node) = m
after_command m (Dots node) = m
after_command m (Why number) = m
after_command m Journal = m

-- what commands print, in order, each on the machine that those before it left
unfoldable pub commands_text : Machine → List Command → List ℕ
commands_text m [] = []
commands_text m (command ∷ commands) = command_text m command ++ commands_text (after_command m command) commands

unfoldable pub after_commands : Machine → List Command → Machine
after_commands m [] = m
after_commands m (command ∷ commands) = after_commands (after_command m command) commands

abbrev pub commands_of : List Line → List Command
commands_of lines = map (λ line. line.command) lines

-- the machine that a script leaves, opened with the script's nodes and these limits
unfoldable pub played : Limits → Script → Machine
played limits script = after_commands (opening_machine script.cast.nodes limits) (commands_of script.lines)

-- the report of a script
unfoldable pub report_of : Limits → Script → List ℕ
report_of limits script = commands_text (opening_machine script.cast.nodes limits) (commands_of script.lines)

-- the call of an event, as a command
abbrev pub call_of : Event → Command
call_of event = Call event.actor event.act

-- the report of a history: what its calls print, asked of the machine as it was opened
unfoldable pub history_text : Machine → List ℕ
history_text m = commands_text (opening_machine m.names m.limits) (map call_of m.state.history)
