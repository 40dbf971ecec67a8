-- What is shown of a script that is played, and of a session that is played again, in the form that was chosen.
use Rattle.std.specs.Prelude.{◌≡◌, ◌≢◌, ℕ, ◌<◌, Bool, true, false, List, length, take, ⊤, Option, Some, None, option_map, Result, Ok, Err}
use Rattle.std.specs.Io.KnownBytes.{Appends}
use Rattle.bench_core.specs.Limits.{Limits}
use Rattle.bench_core.specs.Machine.{Machine}
use Rattle.bench_core.specs.NameList.{Texts}
use Rattle.grammar_core.specs.Scripts.{Script}
use Rattle.run_core.specs.Report.{history_text, played, report_of}
use Rattle.command_line.specs.declared.chosen.Form.{Form}
use Rattle.command_line.specs.declared.chosen.Form.TheVariants as forms
use Rattle.transcript_core.specs.Actors.{free_consoles}
use Rattle.transcript_core.specs.Refusals.{first_in, first_refused}
use Rattle.transcript_core.specs.Scripts.{IsScriptOf, Refuses}
use Rattle.transcript_core.specs.Steps.{bench_steps, script_steps}
use Rattle.transcript_core.specs.declared.fault.TranscriptFault.{TranscriptFault}
use Rattle.transcript_core.specs.declared.fault.TranscriptFault.TheVariants as transcripts
use Rattle.transcript_core.specs.declared.refusals.Refusal.{Refusal}
use Rattle.program_core.specs.Texts.{session_text}
use Rattle.program_core.specs.declared.fault.ProgramFault.{ProgramFault}
use Rattle.program_core.specs.declared.fault.ProgramFault.TheVariants as faults
use Rattle.program_core.specs.declared.fault.Refused.{Refused}
use Rattle.program_core.specs.declared.fault.Refused.TheVariants as refused

-- the text is what is printed for a script that is played with these limits: its report; the report with each line above what it
-- printed; the recorded calls as a script, with the names of its own consoles; or the session
abbrev pub PrintsPlay : Form → Limits → Script → List ℕ → Type 0
PrintsPlay forms.Report limits s text = text ≡ report_of limits s
PrintsPlay forms.Steps limits s text = text ≡ script_steps limits s
PrintsPlay forms.Script limits s text = IsScriptOf (played limits s) s.cast.consoles text
PrintsPlay forms.Session limits s text = text ≡ session_text (played limits s)
-- no command line chooses this: a page comes from logs, or from `page`
PrintsPlay forms.Page limits s text = text ≡ report_of limits s

-- the text is what is printed for the calls that a bench recorded, whose consoles have no names of their own
abbrev pub PrintsBench : Form → Machine → List ℕ → Type 0
PrintsBench forms.Report m text = text ≡ history_text m
PrintsBench forms.Steps m text = text ≡ bench_steps m (free_consoles m)
PrintsBench forms.Script m text = IsScriptOf m (free_consoles m) text
PrintsBench forms.Session m text = text ≡ session_text m
PrintsBench forms.Page m text = text ≡ history_text m

-- the first act that was refused, if that is a fault

abbrev pub line_refused : Refusal → Refused
line_refused r = refused.Line r.number r.fault

abbrev pub act_refused : Refusal → Refused
act_refused r = refused.Act r.number r.fault

abbrev pub refused_line : Bool → Limits → Script → Option Refused
refused_line false limits s = None
refused_line true limits s = option_map line_refused (first_refused limits s)

abbrev pub refused_act : Bool → Machine → Option Refused
refused_act false m = None
refused_act true m = option_map act_refused (first_in m)

abbrev pub ShowsScript : Bool → Form → Limits → Script → List ℕ → Option Refused → Type 0
ShowsScript strict form limits s text refused = PrintsPlay form limits s text × (refused ≡ refused_line strict limits s)

abbrev pub ShowsBench : Bool → Form → Machine → List ℕ → Option Refused → Type 0
ShowsBench strict form m text refused = PrintsBench form m text × (refused ≡ refused_act strict m)

-- why nothing is shown: the calls are no script, and one was asked for; or memory was refused

abbrev pub fault_of_transcript : TranscriptFault → ProgramFault
fault_of_transcript transcripts.OutOfMemory = faults.OutOfMemory
fault_of_transcript fault = faults.Transcript fault

abbrev pub IsWant : ProgramFault → Type 0
IsWant faults.OutOfMemory = ⊤
IsWant _ = ⊥

abbrev pub RefusesCalls : Machine → Texts → ProgramFault → Type 0
RefusesCalls m consoles (faults.Transcript fault) = Refuses m consoles fault × (fault ≢ transcripts.OutOfMemory)
RefusesCalls m consoles faults.OutOfMemory = ⊤
RefusesCalls m consoles _ = ⊥

abbrev pub RefusesPlay : Form → Limits → Script → ProgramFault → Type 0
RefusesPlay forms.Script limits s fault = RefusesCalls (played limits s) s.cast.consoles fault
RefusesPlay _ limits s fault = IsWant fault

abbrev pub RefusesBench : Form → Machine → ProgramFault → Type 0
RefusesBench forms.Script m fault = RefusesCalls m (free_consoles m) fault
RefusesBench _ m fault = IsWant fault

-- all of the text went out, and then the refused act ends the program, if there is one; or, if the writing failed, the text's
-- first `written` bytes went out
abbrev pub EndsAsShown : List ℕ → Option Refused → Result (Unit {0}) ProgramFault → Option (List ℕ) → Option (List ℕ) → Type 0
EndsAsShown text refused (Ok _) old new = (refused ≡ None) × Appends old new text
EndsAsShown text refused (Err (faults.Refused r)) old new = (refused ≡ Some r) × Appends old new text
EndsAsShown text refused (Err (faults.WriteFault written)) old new = (written < length text) × Appends old new (take written text)
EndsAsShown text refused (Err _) old new = ⊥
