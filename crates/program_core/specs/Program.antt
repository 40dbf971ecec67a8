-- What the program prints, and how it ends.
use Rattle.std.specs.Prelude.{◌≡◌, ◌≢◌, ◌⊎◌, ℕ, ◌+◌, ◌<◌, ◌==◌, Bool, true, false, if◌then◌else◌, List, [], ◌∷◌, ◌++◌, length, take, codes, ⊤, Option, None, Some, Result, Ok, Err, OnOk, IfErr, IfOk, IsOkAnd}
use Rattle.std.specs.Io.KnownBytes.{Appends, IsAtEnd, Keeps}
use Rattle.bench_core.specs.Limits.{Limits}
use Rattle.bench_core.specs.Machine.{Machine}
use Rattle.bench_core.specs.NameList.{Texts}
use Rattle.explain_core.specs.Questions.{IsExplanation, Refuses as RefusesQuestion}
use Rattle.explain_core.specs.declared.ask_fault.AskFault.{AskFault}
use Rattle.explain_core.specs.declared.ask_fault.AskFault.TheVariants as asks
use Rattle.explain_core.specs.declared.asking.Question.{Question}
use Rattle.command_line.specs.declared.chosen.Question.{Question as Chosen}
use Rattle.picture_core.specs.Views.{IsPicture, Refuses as RefusesPicture}
use Rattle.picture_core.specs.declared.draw_fault.DrawFault.TheVariants as draws
use Rattle.picture_core.specs.declared.view.View.{View}
use Rattle.grammar_core.specs.Grammar.{script_of}
use Rattle.hint_core.specs.Sessions.{begins_object}
use Rattle.run_core.specs.Report.{history_text, played, report_of}
use Rattle.transcript_core.specs.Actors.{free_consoles}
use Rattle.transcript_core.specs.Scripts.{Refuses as RefusesScriptOf}
use Rattle.transcript_core.specs.declared.fault.TranscriptFault.{TranscriptFault}
use Rattle.transcript_core.specs.declared.fault.TranscriptFault.TheVariants as transcripts
use Rattle.grammar_core.specs.Scripts.{Script}
use Rattle.grammar_core.specs.declared.fault.FaultKind.TheVariants as kinds
use Rattle.recording_core.specs.Sessions.{IsSession, Refuses}
use Rattle.recording_core.specs.declared.session_fault.SessionFault.TheVariants as sessions
use Rattle.stream_core.specs.Steps.{Steps}
use Rattle.clap.specs.declared.error.kind.ErrorKind.{ErrorKind}
use Rattle.clap.specs.declared.error.kind.ErrorKind.TheVariants as refusals
use Rattle.command_line.specs.Line.{Chooses, IsRefusal}
use Rattle.receipt_core.specs.declared.race_fault.RaceFault.{RaceFault}
use Rattle.whatif_report.specs.declared.whatif_fault.WhatifFault.TheVariants as whatifs
use Rattle.receipt_core.specs.declared.race_fault.RaceFault.TheVariants as races
use Rattle.explore_report.specs.declared.question.Question.{Question as Asked}
use Rattle.explore_report.specs.declared.report_fault.ReportFault.TheVariants as reports
use Rattle.program_core.specs.Explored.{RefusesExplored, TellsExplored, asked_of}
use Rattle.progress_core.specs.Lines.{TellsTried, TellsWalked}
use Rattle.prompt_core.specs.Ends.{EndsEarly, IsRead, printed}
use Rattle.prompt_core.specs.Signs.{Shows}
use Rattle.prompt_core.specs.declared.prompt_fault.PromptFault.TheVariants as prompts
use Rattle.command_line.specs.Help.{language}
use Rattle.program_core.specs.Races.{IsRaceOf, RefusesRaceOf}
use Rattle.program_core.specs.Views.{page_of, view_of}
use Rattle.program_core.specs.Imported.{PrintsImport, RefusesImport, TellsMade, TellsMissing}
use Rattle.program_core.specs.Texts.{session_text}
use Rattle.program_core.specs.Shown.{PrintsBench, PrintsPlay, refused_act, refused_line}
use Rattle.program_core.specs.Whatifs.{RefusesWhatif, TellsWhatif}
use Rattle.import_core.specs.declared.fault.FaultKind.{FaultKind}
use Rattle.import_core.specs.declared.fault.FaultKind.TheVariants as imports
use Rattle.import_core.specs.declared.fault.ImportFault.{ImportFault}
use Rattle.command_line.specs.declared.chosen.Choice.{Choice}
use Rattle.command_line.specs.declared.chosen.Form.{Form}
use Rattle.command_line.specs.declared.chosen.Form.TheVariants.{Script as ScriptForm, Session}
use Rattle.command_line.specs.declared.chosen.Subcommand.{Subcommand}
use Rattle.command_line.specs.declared.chosen.Subcommand.TheVariants.{Play, Race, Load, Import, Explore, Step, Draw, Page, Explain, Whatif}
use Rattle.program_core.specs.declared.fault.ProgramFault.{ProgramFault}
use Rattle.program_core.specs.declared.fault.ProgramFault.TheVariants as faults
use Rattle.program_core.specs.declared.fault.Refused.{Refused}

abbrev pub fault_status : ProgramFault → ℕ
fault_status (faults.Script fault) = 1
fault_status (faults.Session fault) = 1
fault_status faults.LongSession = 1
fault_status (faults.Import fault) = 1
fault_status faults.LongImport = 1
fault_status faults.Differs = 6
fault_status (faults.Race races.UnknownActor) = 1
fault_status (faults.Race races.NoRoom) = 1
fault_status (faults.Race races.WorkerRefused) = 5
fault_status (faults.Race races.OutOfMemory) = 4
fault_status (faults.Race races.LogsDisagree) = 5
fault_status (faults.Explore reports.NoSuchNode) = 1
fault_status (faults.Explore reports.NoWord) = 1
fault_status (faults.Explore (reports.TooManyStates states outcomes)) = 1
fault_status (faults.Explore reports.MayFill) = 1
fault_status (faults.Explore reports.TooManySteps) = 1
fault_status (faults.Explore (reports.NoSuchOutcome outcomes)) = 1
fault_status (faults.Explore reports.OutOfMemory) = 4
fault_status (faults.Explain asks.NoSuchNode) = 1
fault_status (faults.Explain asks.NoWord) = 1
fault_status (faults.Explain asks.OutOfMemory) = 4
fault_status (faults.Draw draws.NoSuchNode) = 1
fault_status (faults.Draw draws.NoWord) = 1
fault_status (faults.Draw draws.OutOfMemory) = 4
fault_status (faults.Whatif whatifs.NoSuchNode) = 1
fault_status (faults.Whatif whatifs.NoWord) = 1
fault_status (faults.Whatif (whatifs.NoSuchChange changes)) = 1
fault_status (faults.Whatif whatifs.OutOfMemory) = 4
fault_status (faults.Transcript (transcripts.NoScript fault)) = 1
fault_status (faults.Transcript transcripts.OtherCalls) = 1
fault_status (faults.Transcript transcripts.OutOfMemory) = 4
fault_status (faults.Refused act) = 6
fault_status (faults.Prompt prompts.TooLong) = 1
fault_status (faults.Prompt prompts.ReadFault) = 3
fault_status (faults.Prompt prompts.WriteFault) = 3
fault_status (faults.Prompt prompts.OutOfMemory) = 4
fault_status faults.ReadFault = 3
fault_status (faults.WriteFault written) = 3
fault_status faults.OutOfMemory = 4

-- the status of an outcome
abbrev pub status_of : Result (Unit {0}) ProgramFault → ℕ
status_of (Ok _) = 0
status_of (Err fault) = fault_status fault

abbrev pub fault_of_race : RaceFault → ProgramFault
fault_of_race races.OutOfMemory = faults.OutOfMemory
fault_of_race fault = faults.Race fault

abbrev pub fault_of_ask : AskFault → ProgramFault
fault_of_ask asks.OutOfMemory = faults.OutOfMemory
fault_of_ask fault = faults.Explain fault

abbrev pub fault_of_import : ImportFault → ProgramFault
fault_of_import fault = by fault.kind
  where
    by : FaultKind → ProgramFault
    by imports.OutOfMemory = faults.OutOfMemory
    by kind = faults.Import fault

-- the input spells this script, if its bytes are known
abbrev pub IsScriptAt : Option (List ℕ) → Script → Type 0
IsScriptAt None script = ⊤
IsScriptAt (Some input) script = script_of input ≡ Ok script

-- the input is the session of this bench, if its bytes are known
abbrev pub IsSessionAt : Option (List ℕ) → Machine → Type 0
IsSessionAt None bench = ⊤
IsSessionAt (Some input) bench = IsSession input bench

-- why no script is read from the input: it has this first fault, or a read failed, or memory was refused; `FailsAs` says that a read fault
-- comes if a read failed
abbrev pub RefusesScript : List ℕ → ProgramFault → Type 0
RefusesScript input (faults.Script fault) = script_of input ≡ Err fault
RefusesScript input faults.ReadFault = ⊤
RefusesScript input faults.OutOfMemory = ⊤
RefusesScript input fault = ⊥

-- why no session is read from the input: it is no session, and the fault says why; or it has too many bytes; or a read failed, or memory
-- was refused
abbrev pub RefusesSession : List ℕ → ProgramFault → Type 0
RefusesSession input (faults.Session fault) = Refuses input fault
RefusesSession input faults.LongSession = 67108864 < length input
RefusesSession input faults.ReadFault = ⊤
RefusesSession input faults.OutOfMemory = ⊤
RefusesSession input fault = ⊥

-- a script or a session

-- whether the input should be a session: whether its first byte that isn't JSON's space is `{`, where only as many bytes are looked at as a
-- session may have, and one more
unfoldable pub is_for_session : List ℕ → Bool
is_for_session input = begins_object (take 67108865 input)

-- the input gives this bench: that of the session, or that on which the script was played
abbrev pub IsBenchBy : Bool → Limits → List ℕ → Machine → Type 0
IsBenchBy true limits input bench = IsSession input bench
IsBenchBy false limits input bench = IsOkAnd (script_of input) (λ s. bench ≡ played limits s)

abbrev pub IsBenchOf : Limits → List ℕ → Machine → Type 0
IsBenchOf limits input bench = IsBenchBy (is_for_session input) limits input bench

-- the input gives this bench with these names of its consoles: those of the script; or free names, as a session has none
abbrev pub IsRunBy : Bool → Limits → List ℕ → Machine → Texts → Type 0
IsRunBy true limits input bench consoles = IsSession input bench × (consoles ≡ free_consoles bench)
IsRunBy false limits input bench consoles = IsOkAnd (script_of input) (λ s. (bench ≡ played limits s) × (consoles ≡ s.cast.consoles))

abbrev pub IsRunOf : Limits → List ℕ → Machine → Texts → Type 0
IsRunOf limits input bench consoles = IsRunBy (is_for_session input) limits input bench consoles

-- why the input gives no bench: no session is read from it, if it should be one, and else no script
abbrev pub RefusesBench : List ℕ → ProgramFault → Type 0
RefusesBench input fault =
    (is_for_session input ≡ true → RefusesSession input fault) × (is_for_session input ≡ false → RefusesScript input fault)

-- the question that was chosen
abbrev pub question_of : Chosen → Question
question_of chosen = record { node = chosen.node; topic = chosen.topic; key = chosen.key }

-- why there is no explanation of the input's bench
abbrev pub RefusesAsked : Limits → Chosen → List ℕ → ProgramFault → Type 0
RefusesAsked limits question input (faults.Explain fault) = (m : Machine) × IsBenchOf limits input m × RefusesQuestion m (question_of question) fault
RefusesAsked limits question input fault = ⊥

-- why there is no picture of the input's bench
abbrev pub RefusesDrawn : Limits → View → List ℕ → ProgramFault → Type 0
RefusesDrawn limits view input (faults.Draw fault) = (m : Machine) × IsBenchOf limits input m × RefusesPicture m view.of fault
RefusesDrawn limits view input fault = ⊥

-- why there is no text of what would have made a difference on the input's bench
abbrev pub RefusesChanges : Limits → Chosen → Option ℕ → List ℕ → ProgramFault → Type 0
RefusesChanges limits question change input (faults.Whatif fault) = (m : Machine) × IsBenchOf limits input m × RefusesWhatif m question change fault
RefusesChanges limits question change input fault = ⊥

-- why there is no text of what the network could have done on the input's bench
abbrev pub RefusesNetwork : Limits → Asked → Option ℕ → List ℕ → ProgramFault → Type 0
RefusesNetwork limits question outcome input (faults.Explore fault) =
    (m : Machine) × IsBenchOf limits input m × RefusesExplored m question outcome fault
RefusesNetwork limits question outcome input fault = ⊥

-- what refuses the input of this command; for a race also that a line is no act line, or that the race is refused; and for a
-- question that there is no text for it
abbrev pub IsCauseOf : Subcommand → Form → Limits → List ℕ → ProgramFault → Type 0
IsCauseOf Race form limits input fault = RefusesScript input fault ⊎ IsOkAnd (script_of input) (λ s. RefusesRaceOf limits s fault)
IsCauseOf (Play strict) form limits input fault = RefusesScript input fault
IsCauseOf (Load strict) form limits input fault = RefusesSession input fault
IsCauseOf (Import wanted) form limits input fault = RefusesImport wanted.check wanted.lines wanted.lenient form limits input fault
IsCauseOf (Explore asked) form limits input fault =
    RefusesBench input fault ⊎ RefusesNetwork limits (asked_of asked) asked.outcome input fault
IsCauseOf Step form limits input fault = ⊥
IsCauseOf (Draw drawing) form limits input fault = RefusesBench input fault ⊎ RefusesDrawn limits (view_of drawing) input fault
IsCauseOf Page form limits input fault = RefusesBench input fault
IsCauseOf (Explain question) form limits input fault = RefusesBench input fault ⊎ RefusesAsked limits question input fault
IsCauseOf (Whatif asked) form limits input fault = RefusesBench input fault ⊎ RefusesChanges limits asked.question asked.change input fault

-- what refuses the input of a command, if the reader's bytes are known

abbrev pub RefusesScriptAt : Option (List ℕ) → ProgramFault → Type 0
RefusesScriptAt None fault = ⊤
RefusesScriptAt (Some input) fault = RefusesScript input fault

abbrev pub RefusesSessionAt : Option (List ℕ) → ProgramFault → Type 0
RefusesSessionAt None fault = ⊤
RefusesSessionAt (Some input) fault = RefusesSession input fault

abbrev pub IsBenchAt : Limits → Option (List ℕ) → Machine → Type 0
IsBenchAt limits None bench = ⊤
IsBenchAt limits (Some input) bench = IsBenchOf limits input bench

abbrev pub IsRunAt : Limits → Option (List ℕ) → Machine → Texts → Type 0
IsRunAt limits None bench consoles = ⊤
IsRunAt limits (Some input) bench consoles = IsRunOf limits input bench consoles

abbrev pub RefusesBenchAt : Option (List ℕ) → ProgramFault → Type 0
RefusesBenchAt None fault = ⊤
RefusesBenchAt (Some input) fault = RefusesBench input fault

-- what is shown of a bench that has this report
abbrev pub shown : Form → List ℕ → Machine → List ℕ
shown Session report bench = session_text bench
shown _ report bench = report

-- the text is what the subcommand prints for the input: for the bench of a script, of a session, or of either; for the events of logs, if
-- the bench and the real nodes don't part; or at a prompt, where it is also the report of a script without faults
abbrev pub Prints : Subcommand → Form → Limits → List ℕ → List ℕ → Type 0
Prints (Play strict) form limits input text = IsOkAnd (script_of input) (λ s. PrintsPlay form limits s text)
Prints Race form limits input text = IsOkAnd (script_of input) (λ s. (m : Machine) × IsRaceOf limits s m × (text ≡ shown form (history_text m) m))
Prints (Import wanted) form limits input text = PrintsImport wanted.check wanted.lines wanted.lenient form limits input false text
Prints (Load strict) form limits input text = (m : Machine) × IsSession input m × PrintsBench form m text
Prints (Explore asked) form limits input text =
    (m : Machine) × IsBenchOf limits input m × TellsExplored m (asked_of asked) asked.outcome text
Prints Step form limits input text =
    (text ≡ printed language limits input) × IfOk (script_of input) (λ s. text ≡ report_of limits s)
Prints (Draw drawing) form limits input text =
    (m : Machine) × (consoles : Texts) × IsRunOf limits input m consoles × IsPicture m consoles (view_of drawing) text
Prints Page form limits input text = (m : Machine) × (consoles : Texts) × IsRunOf limits input m consoles × (text ≡ page_of m consoles)
Prints (Explain question) form limits input text = (m : Machine) × IsBenchOf limits input m × IsExplanation m (question_of question) text
Prints (Whatif asked) form limits input text = (m : Machine) × IsBenchOf limits input m × TellsWhatif m asked.question asked.change text

-- the text is what a check of an import prints, and the bench and the real nodes part
abbrev pub PrintsApart : Subcommand → Form → Limits → List ℕ → List ℕ → Type 0
PrintsApart (Import wanted) form limits input text = PrintsImport wanted.check wanted.lines wanted.lenient form limits input true text
PrintsApart (Play strict) form limits input text = ⊥
PrintsApart Race form limits input text = ⊥
PrintsApart (Load strict) form limits input text = ⊥
PrintsApart (Explore asked) form limits input text = ⊥
PrintsApart Step form limits input text = ⊥
PrintsApart (Draw drawing) form limits input text = ⊥
PrintsApart Page form limits input text = ⊥
PrintsApart (Explain question) form limits input text = ⊥
PrintsApart (Whatif asked) form limits input text = ⊥

-- all of the text went out; or, if the writing failed, its first `written` bytes
abbrev pub EndsAsText : List ℕ → Result (Unit {0}) ProgramFault → Option (List ℕ) → Option (List ℕ) → Type 0
EndsAsText text (Ok _) old new = Appends old new text
EndsAsText text (Err (faults.WriteFault written)) old new = (written < length text) × Appends old new (take written text)
EndsAsText text (Err fault) old new = ⊥

-- the command is a prompt, so that it may end with a fault of a prompt; `EndsSoon` says what went out before one
abbrev pub HasPrompt : Subcommand → Type 0
HasPrompt (Play strict) = ⊥
HasPrompt Race = ⊥
HasPrompt (Load strict) = ⊥
HasPrompt (Import wanted) = ⊥
HasPrompt (Explore asked) = ⊥
HasPrompt Step = ⊤
HasPrompt (Draw drawing) = ⊥
HasPrompt Page = ⊥
HasPrompt (Explain question) = ⊥
HasPrompt (Whatif asked) = ⊥

-- `refused` is the first act that was refused, if `--strict` makes that a fault; else none
abbrev pub Tells : Subcommand → Limits → List ℕ → Option Refused → Type 0
Tells (Play strict) limits input refused = IsOkAnd (script_of input) (λ s. refused ≡ refused_line strict limits s)
Tells (Load strict) limits input refused = (m : Machine) × IsSession input m × (refused ≡ refused_act strict m)
Tells (Import wanted) limits input refused = refused ≡ None
Tells Race limits input refused = refused ≡ None
Tells (Explore asked) limits input refused = refused ≡ None
Tells Step limits input refused = refused ≡ None
Tells (Draw drawing) limits input refused = refused ≡ None
Tells Page limits input refused = refused ≡ None
Tells (Explain question) limits input refused = refused ≡ None
Tells (Whatif asked) limits input refused = refused ≡ None

-- a script was asked for, and that of the calls of the input's bench isn't read as these calls, for this reason
abbrev pub IsUntold : Subcommand → Form → Limits → List ℕ → TranscriptFault → Type 0
IsUntold (Play strict) ScriptForm limits input fault = IsOkAnd (script_of input) (λ s. RefusesScriptOf (played limits s) s.cast.consoles fault)
IsUntold (Load strict) ScriptForm limits input fault = (m : Machine) × IsSession input m × RefusesScriptOf m (free_consoles m) fault
IsUntold _ form limits input fault = ⊥

-- what went out, by the result: what is printed for the input; its first bytes, if a write failed; and else nothing, and the fault is the
-- input's. That an act was refused, and that the bench and the real nodes part, are faults that come after all of the text. Of a prompt's
-- fault this says only that the command is a prompt
abbrev pub Ends : Subcommand → Form → Limits → List ℕ → Result (Unit {0}) ProgramFault → Option (List ℕ) → Option (List ℕ) → Type 0
Ends command form limits input (Ok u) old new = (text : List ℕ) × Prints command form limits input text × Appends old new text × Tells command limits input None
Ends command form limits input (Err (faults.Refused act)) old new =
    (text : List ℕ) × Prints command form limits input text × Appends old new text × Tells command limits input (Some act)
Ends command form limits input (Err (faults.Transcript fault)) old new = IsUntold command form limits input fault × Keeps old new
Ends command form limits input (Err (faults.WriteFault written)) old new =
    (text : List ℕ) × (Prints command form limits input text ⊎ PrintsApart command form limits input text) × (written < length text)
    × Appends old new (take written text)
Ends command form limits input (Err faults.Differs) old new = (text : List ℕ) × PrintsApart command form limits input text × Appends old new text
Ends command form limits input (Err (faults.Prompt fault)) old new = HasPrompt command
Ends command form limits input (Err fault) old new = IsCauseOf command form limits input fault × Keeps old new

-- what went out, by the result, if the reader's bytes are known
abbrev pub EndsAt : Subcommand → Form → Limits → Option (List ℕ) → Result (Unit {0}) ProgramFault → Option (List ℕ) → Option (List ℕ) → Type 0
EndsAt command form limits None result old new = ⊤
EndsAt command form limits (Some input) result old new = Ends command form limits input result old new

-- nothing went out for a fault that came before the writing
abbrev pub KeepsBefore : ProgramFault → Option (List ℕ) → Option (List ℕ) → Type 0
KeepsBefore (faults.WriteFault written) old new = ⊤
KeepsBefore (faults.Prompt fault) old new = ⊤
KeepsBefore faults.Differs old new = ⊤
KeepsBefore (faults.Refused act) old new = ⊤
KeepsBefore _ old new = Keeps old new

-- a prompt that ends early has responded to all lines that it took in, except the last
abbrev pub EndsSoon : Subcommand → Limits → Result (Unit {0}) ProgramFault → Option (List ℕ) → Option (List ℕ) → Option (List ℕ) → Option (List ℕ) → Type 0
EndsSoon Step limits (Err (faults.Prompt fault)) input left old new = EndsEarly language limits fault input left old new
EndsSoon Step limits result input left old new = ⊤
EndsSoon (Play strict) limits result input left old new = ⊤
EndsSoon Race limits result input left old new = ⊤
EndsSoon (Load strict) limits result input left old new = ⊤
EndsSoon (Import wanted) limits result input left old new = ⊤
EndsSoon (Explore asked) limits result input left old new = ⊤
EndsSoon (Draw drawing) limits result input left old new = ⊤
EndsSoon Page limits result input left old new = ⊤
EndsSoon (Explain question) limits result input left old new = ⊤
EndsSoon (Whatif asked) limits result input left old new = ⊤

-- the fault is none of a write, of a prompt, of a refused act, of calls that are no script, or of a check
abbrev pub IsUnwritten : ProgramFault → Type 0
IsUnwritten (faults.WriteFault written) = ⊥
IsUnwritten (faults.Prompt fault) = ⊥
IsUnwritten (faults.Refused act) = ⊥
IsUnwritten (faults.Transcript fault) = ⊥
IsUnwritten faults.Differs = ⊥
IsUnwritten _ = ⊤

-- want of memory comes as no fault of a script, a session, a race, an explanation, a picture, an import, a question for changes or for
-- what the network could have made, or calls as a script
abbrev pub TellsMemory : ProgramFault → Type 0
TellsMemory (faults.Script fault) = fault.kind ≢ kinds.OutOfMemory
TellsMemory (faults.Session fault) = fault ≢ sessions.OutOfMemory
TellsMemory (faults.Race fault) = fault ≢ races.OutOfMemory
TellsMemory (faults.Explain fault) = fault ≢ asks.OutOfMemory
TellsMemory (faults.Draw fault) = fault ≢ draws.OutOfMemory
TellsMemory (faults.Import fault) = fault.kind ≢ imports.OutOfMemory
TellsMemory (faults.Whatif fault) = fault ≢ whatifs.OutOfMemory
TellsMemory (faults.Explore fault) = fault ≢ reports.OutOfMemory
TellsMemory (faults.Transcript fault) = fault ≢ transcripts.OutOfMemory
TellsMemory _ = ⊤

-- a call of `read` failed if and only if the result is a read fault, and then only one: it wasn't tried again
abbrev pub FailsAs : {X : Type 0} → Result X ProgramFault → Steps → Steps → Type 0
FailsAs (Err faults.ReadFault) old new = new.failed ≡ old.failed + 1
FailsAs (Err (faults.Prompt prompts.ReadFault)) old new = new.failed ≡ old.failed + 1
FailsAs _ old new = new.failed ≡ old.failed

-- to the errors went nothing; or, for the events of logs, what isn't in the text, and for long work, how far it has come
abbrev pub TellsAside : Subcommand → Form → Limits → Option (List ℕ) → Option (List ℕ) → Option (List ℕ) → Type 0
TellsAside (Import wanted) form limits input old new = TellsMissing wanted.check wanted.lines wanted.lenient form limits input old new
TellsAside (Play strict) form limits input old new = Keeps old new
TellsAside Race form limits input old new = Keeps old new
TellsAside (Load strict) form limits input old new = Keeps old new
TellsAside (Explore asked) form limits input old new = TellsWalked old new
TellsAside Step form limits input old new = Keeps old new
TellsAside (Draw drawing) form limits input old new = Keeps old new
TellsAside Page form limits input old new = Keeps old new
TellsAside (Explain question) form limits input old new = Keeps old new
TellsAside (Whatif asked) form limits input old new = TellsTried old new

-- the outcome is a fault other than those that `IsUnwritten` excludes
abbrev pub IsEarly : Result (Unit {0}) ProgramFault → Type 0
IsEarly (Ok _) = ⊥
IsEarly (Err fault) = IsUnwritten fault

-- to the errors went all lines that tell what is missing from an import, unless a write failed
abbrev pub TellsWhole : Subcommand → Form → Limits → Option (List ℕ) → Bool → Option (List ℕ) → Option (List ℕ) → Type 0
TellsWhole (Import wanted) form limits input lost old new = TellsMade wanted.check wanted.lines wanted.lenient form limits input lost old new
TellsWhole (Play strict) form limits input lost old new = ⊤
TellsWhole Race form limits input lost old new = ⊤
TellsWhole (Load strict) form limits input lost old new = ⊤
TellsWhole (Explore asked) form limits input lost old new = ⊤
TellsWhole Step form limits input lost old new = ⊤
TellsWhole (Draw drawing) form limits input lost old new = ⊤
TellsWhole Page form limits input lost old new = ⊤
TellsWhole (Explain question) form limits input lost old new = ⊤
TellsWhole (Whatif asked) form limits input lost old new = ⊤

-- the word that chooses a command
abbrev pub word_of : Subcommand → List ℕ
word_of (Play strict) = codes "play"
word_of Race = codes "race"
word_of (Load strict) = codes "load"
word_of (Import wanted) = codes "import"
word_of (Explore asked) = codes "explore"
word_of Step = codes "step"
word_of (Draw drawing) = codes "draw"
word_of Page = codes "page"
word_of (Explain question) = codes "explain"
word_of (Whatif asked) = codes "whatif"

-- `presence_bench: reads standard input: presence_bench COMMAND < FILE`
unfoldable pub input_line : Subcommand → List ℕ
input_line command = codes "presence_bench: reads standard input: presence_bench " ++ word_of command ++ codes " < FILE\n"

-- a beginning of `input_line` went out
abbrev pub TellsInput : Subcommand → Option (List ℕ) → Option (List ℕ) → Type 0
TellsInput command old new = (count : ℕ) × Appends old new (take count (input_line command))

-- a beginning of `input_line` went out, if the input is a terminal and the command isn't a prompt; else nothing
abbrev pub Announces : Bool → Subcommand → Option (List ℕ) → Option (List ℕ) → Type 0
Announces false command old new = new ≡ old
Announces true Step old new = new ≡ old
Announces true command old new = TellsInput command old new

-- `TellsWhole`, behind what `Announces` says
abbrev pub TellsBehind : Bool → Limits → Subcommand → Form → Option (List ℕ) → Bool → Option (List ℕ) → Option (List ℕ) → Type 0
TellsBehind terminal limits command form input lost old new =
    (middle : Option (List ℕ)) × Announces terminal command old middle × TellsWhole command form limits input lost middle new

-- what goes to the errors after `input_line`: for a prompt its signs, if it is on a terminal; for another command what `TellsAside` says
abbrev pub TellsOn : Bool → Limits → Subcommand → Form → Option (List ℕ) → Option (List ℕ) → Option (List ℕ) → Type 0
TellsOn terminal limits Step form input old new = Shows terminal language limits input old new
TellsOn terminal limits command form input old new = TellsAside command form limits input old new

-- all that goes to the errors of the program
abbrev pub TellsBeside : Bool → Limits → Subcommand → Form → Option (List ℕ) → Option (List ℕ) → Option (List ℕ) → Type 0
TellsBeside false limits command form input old new = TellsAside command form limits input old new
TellsBeside true limits Step form input old new = Shows true language limits input old new
TellsBeside true limits command form input old new =
    (middle : Option (List ℕ)) × TellsInput command old middle × TellsAside command form limits input middle new

-- the input was read to its end; by a prompt perhaps only up to a line that ends it
abbrev pub IsReadBy : Subcommand → Option (List ℕ) → Option (List ℕ) → Type 0
IsReadBy Step input left = IsRead input left
IsReadBy _ input left = IsAtEnd left

-- the choice can end on the input like this: with this status, this rest of the input, this output and these reads
pub record Exits (choice : Choice) (input left : Option (List ℕ)) (limits : Limits) (status : ℕ) (old new : Option (List ℕ)) (before after : Steps)
    : Type 0 where
  pub outcome : Result (Unit {0}) ProgramFault
  pub status_is : status ≡ status_of outcome
  pub ends : EndsAt choice.command choice.form limits input outcome old new
  pub read : OnOk outcome (IsReadBy choice.command input left)
  pub unwritten : IfErr outcome (λ fault. KeepsBefore fault old new)
  pub memory : IfErr outcome TellsMemory
  pub early : EndsSoon choice.command limits outcome input left old new
  pub failed : FailsAs outcome before after

-- the status once help or the version was asked for: 0; or 3, which is that of a failed write
abbrev pub PrintsHelp : ℕ → Type 0
PrintsHelp status = (status ≡ 0) ⊎ (status ≡ 3)

-- words that choose nothing get help or the version, and then only the status is said; or a fault, and then nothing went out
abbrev pub EndsRefused : ErrorKind → ℕ → Option (List ℕ) → Option (List ℕ) → Type 0
EndsRefused refusals.DisplayHelp status old new = PrintsHelp status
EndsRefused refusals.DisplayVersion status old new = PrintsHelp status
EndsRefused refusals.OutOfMemory status old new = (status ≡ 4) × Keeps old new
EndsRefused kind status old new = (status ≡ 2) × Keeps old new

-- the limits of a bench if nobody says otherwise
abbrev pub usual : Limits
usual = record { acts = 100000; entries = 10000; clock = 1000000; messages = 10000 }

-- what the program does with its words: they choose, and the program does what they choose; or they are refused, and nothing is
-- read
abbrev pub EndsProgram : List (List ℕ) → Option (List ℕ) → Option (List ℕ) → Limits → ℕ → Option (List ℕ) → Option (List ℕ) → Steps → Steps → Type 0
EndsProgram words input left limits status old new before after =
    ((choice : Choice) × Chooses words choice × Exits choice input left limits status old new before after)
    ⊎ ((kind : ErrorKind) × IsRefusal words kind × EndsRefused kind status old new × Keeps input left)

-- nothing went to the errors, or what the command that the words choose may write there, with the usual limits
abbrev pub IsQuiet : List (List ℕ) → Option (List ℕ) → Option (List ℕ) → Option (List ℕ) → Type 0
IsQuiet words input old new = Keeps old new ⊎ ((choice : Choice) × Chooses words choice × TellsAside choice.command choice.form usual input old new)

-- nothing went to the errors, or what the command that the words choose may write there, on a terminal or not
abbrev pub IsQuietOn : Bool → Limits → List (List ℕ) → Option (List ℕ) → Option (List ℕ) → Option (List ℕ) → Type 0
IsQuietOn terminal limits words input old new =
    Keeps old new ⊎ ((choice : Choice) × Chooses words choice × TellsBeside terminal limits choice.command choice.form input old new)

-- the outcome says that all went well, or that the bench and the real nodes part
abbrev pub IsFine : Result (Unit {0}) ProgramFault → Type 0
IsFine (Ok _) = ⊤
IsFine (Err faults.Differs) = ⊤
IsFine (Err _) = ⊥

-- the status says that all went well, or that an act was refused or that the bench and the real nodes part
abbrev pub IsEnd : ℕ → Type 0
IsEnd status = (status ≡ 0) ⊎ (status ≡ 6)

-- the words choose something, and what is missing from an import was told; or they choose nothing, and nothing was told
abbrev pub TellsAsChosen : Bool → Limits → List (List ℕ) → Option (List ℕ) → Bool → Option (List ℕ) → Option (List ℕ) → Type 0
TellsAsChosen terminal limits words input lost old new =
    ((choice : Choice) × Chooses words choice × TellsBehind terminal limits choice.command choice.form input lost old new)
    ⊎ ((kind : ErrorKind) × IsRefusal words kind × Keeps old new)
