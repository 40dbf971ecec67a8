-- The calls of a bench as a script.
use Rattle.std.specs.Prelude.{◌≡◌, ℕ, List, [], ◌∷◌, ◌++◌, map, codes, decimal, ⊤, Ok, Err}
use Rattle.std.specs.List.{flat_map}
use Rattle.bench_core.specs.Acts.{Action, Do, Undo, Back}
use Rattle.bench_core.specs.Machine.{Event, Machine}
use Rattle.bench_core.specs.NameList.{Texts}
use Rattle.grammar_core.specs.Casts.{Cast}
use Rattle.grammar_core.specs.Grammar.{script_of}
use Rattle.grammar_core.specs.Scripts.{Command, Script}
use Rattle.grammar_core.specs.declared.fault.FaultKind.{FaultKind}
use Rattle.grammar_core.specs.declared.fault.FaultKind.TheVariants as kinds
use Rattle.grammar_core.specs.declared.fault.ScriptFault.{ScriptFault}
use Rattle.report_core.specs.Rows.{name_at}
use Rattle.report_core.specs.StepText.{act_line}
use Rattle.run_core.specs.Report.{call_of, commands_of, played}
use Rattle.transcript_core.specs.Actors.{actor_name}
use Rattle.transcript_core.specs.declared.fault.TranscriptFault.{TranscriptFault}
use Rattle.transcript_core.specs.declared.fault.TranscriptFault.TheVariants.{NoScript, OtherCalls, OutOfMemory}

-- `NODE VERB ..`, `ACTOR undo NUMBER` or `ACTOR back NAME`
unfoldable pub call_line : Cast → ℕ → Action → List ℕ
call_line cast actor (Do operation) = act_line cast.nodes actor operation
call_line cast actor (Undo number) = actor_name cast actor ++ codes " undo " ++ decimal number
call_line cast actor (Back node) = actor_name cast actor ++ codes " back " ++ name_at cast.nodes node

-- a line with its line feed
abbrev pub ended : List ℕ → List ℕ
ended line = line ++ codes "\n"

abbrev pub event_line : Cast → Event → List ℕ
event_line cast e = ended (call_line cast e.actor e.act)

-- a line for each
unfoldable pub event_lines : Cast → List Event → List ℕ
event_lines cast events = flat_map (event_line cast) events

-- each name after a space
unfoldable pub spaced_names : Texts → List ℕ
spaced_names names = flat_map (λ name. codes " " ++ name) names

-- `consoles NAME ..`, if there are any
unfoldable pub consoles_text : Texts → List ℕ
consoles_text [] = []
consoles_text (name ∷ names) = codes "consoles" ++ spaced_names (name ∷ names) ++ codes "\n"

-- `nodes NAME ..` and `consoles NAME ..`
unfoldable pub cast_text : Cast → List ℕ
cast_text cast = codes "nodes" ++ spaced_names cast.nodes ++ codes "\n" ++ consoles_text cast.consoles

-- the script of these calls
unfoldable pub script_text : Cast → List Event → List ℕ
script_text cast events = cast_text cast ++ event_lines cast events

-- the recorded calls, as what a script asks
abbrev pub calls_asked : Machine → List Command
calls_asked m = map call_of m.state.history

abbrev pub cast_of : Machine → Texts → Cast
cast_of m consoles = record { nodes = m.names; consoles = consoles }

-- a script asks the recorded calls of the bench, in their order, and its nodes are the bench's
pub record Asks (m : Machine) (script : Script) : Type 0 where
  pub nodes : script.cast.nodes ≡ m.names
  pub commands : commands_of script.lines ≡ calls_asked m

-- the text is read as a script that asks the calls of the bench
pub record IsReadBack (m : Machine) (text : List ℕ) : Type 0 where
  pub script : Script
  pub read : script_of text ≡ Ok script
  pub asks : Asks m script

-- the text is the script of the bench's calls, with these names of its consoles; it is read as these calls, and to play it with the bench's
-- limits leads to this very bench
pub record IsScriptOf (m : Machine) (consoles : Texts) (text : List ℕ) : Type 0 where
  pub is : text ≡ script_text (cast_of m consoles) m.state.history
  pub back : IsReadBack m text
  pub leaves : played m.limits back.script ≡ m

abbrev pub fault_by : FaultKind → ScriptFault → TranscriptFault
fault_by kinds.OutOfMemory fault = OutOfMemory
fault_by _ fault = NoScript fault

abbrev pub fault_of : ScriptFault → TranscriptFault
fault_of fault = fault_by fault.kind fault

-- why the text isn't read as the bench's calls: it is no script, and this is its first fault; it is a script, but doesn't ask the bench's
-- calls of its nodes; or memory was refused, which says nothing of the text
abbrev pub IsUnread : Machine → List ℕ → TranscriptFault → Type 0
IsUnread m text (NoScript fault) = script_of text ≡ Err fault
IsUnread m text OtherCalls = (script : Script) × (script_of text ≡ Ok script) × ¬ Asks m script
IsUnread m text OutOfMemory = ⊤

-- why the text of the bench's calls isn't read as these calls
abbrev pub Refuses : Machine → Texts → TranscriptFault → Type 0
Refuses m consoles fault = IsUnread m (script_text (cast_of m consoles) m.state.history) fault
