-- What a prompt reads and writes, until its input ends or a fault ends it early.
use Rattle.std.specs.Prelude.{◌≡◌, ◌≢◌, ℕ, ◌+◌, ◌==◌, false, if◌then◌else◌, List, [], ◌∷◌, ◌++◌, ⊤, Option, None, Some, Result, Ok, Err, IfOk}
use Rattle.std.specs.Io.{StartsWith, StopsAt}
use Rattle.std.specs.List.{All, list_any}
use Rattle.std.specs.Io.KnownBytes.{Appends}
use Rattle.bench_core.specs.Limits.{Limits}
use Rattle.grammar_core.specs.Grammar.{script_of}
use Rattle.run_core.specs.Prompts.{new_prompt}
use Rattle.run_core.specs.Report.{report_of}
use Rattle.grammar_core.specs.Scripts.{Script}
use Rattle.grammar_core.specs.Words.{lines_of}
use Rattle.prompt_core.specs.Responses.{responses, is_quit}
use Rattle.stream_core.specs.Steps.{Steps}
use Rattle.stream_core.specs.declared.stream_fault.InputFault.{InputFault}
use Rattle.stream_core.specs.declared.stream_fault.InputFault.TheVariants as inputs
use Rattle.prompt_core.specs.declared.prompt_fault.PromptFault.{PromptFault}
use Rattle.prompt_core.specs.declared.prompt_fault.PromptFault.TheVariants as prompts
use Rattle.prompt_core.specs.declared.prompt_fault.PromptFault.TheVariants.{ReadFault, WriteFault}

-- why the next line could not be had, as a fault of the prompt
abbrev pub of_input : InputFault → PromptFault
of_input inputs.ReadFault = prompts.ReadFault
of_input inputs.TooLong = prompts.TooLong
of_input inputs.OutOfMemory = prompts.OutOfMemory

-- a call of `read` failed if and only if the result is a read fault, and then only one: it wasn't tried again
abbrev pub FailsAs : Result (Unit {0}) PromptFault → Steps → Steps → Type 0
FailsAs (Ok u) old new = new.failed ≡ old.failed
FailsAs (Err prompts.ReadFault) old new = new.failed ≡ old.failed + 1
FailsAs (Err prompts.WriteFault) old new = new.failed ≡ old.failed
FailsAs (Err prompts.TooLong) old new = new.failed ≡ old.failed
FailsAs (Err prompts.OutOfMemory) old new = new.failed ≡ old.failed

-- what comes after the first line that ends the prompt, or nothing; `line` has the earlier bytes of the line that is read
unfoldable pub unread_behind : List ℕ → List ℕ → List ℕ
unread_behind line [] = []
unread_behind line (byte ∷ bytes) =
    if byte == 10 then (if is_quit line then bytes else unread_behind [] bytes) else unread_behind (line ++ byte ∷ []) bytes

-- what a prompt leaves of an input: what comes after the first line that ends it
abbrev pub unread : List ℕ → List ℕ
unread input = unread_behind [] input

-- an input, if its bytes are known, was read to its end, or up to the first line that ends the prompt, and no further
abbrev pub IsRead : Option (List ℕ) → Option (List ℕ) → Type 0
IsRead None left = ⊤
IsRead (Some input) None = ⊥
IsRead (Some input) (Some left) = left ≡ unread input

-- none of the input's lines ends the prompt
abbrev pub HasNoQuit : List ℕ → Type 0
HasNoQuit input = list_any is_quit (lines_of input) ≡ false

-- all that a prompt prints for an input
abbrev pub printed : List ℕ → Limits → List ℕ → List ℕ
printed help limits input = responses help (new_prompt limits) 1 (lines_of input)

-- if an input's bytes are known, the responses to its lines, up to the one that ends the prompt, went out, and nothing else
abbrev pub Responds : List ℕ → Limits → Option (List ℕ) → Option (List ℕ) → Option (List ℕ) → Type 0
Responds help limits None old new = ⊤
Responds help limits (Some input) old new = Appends old new (printed help limits input)

-- for a script without faults a prompt prints its report, byte for byte
abbrev pub ReportLaw : Type 0
ReportLaw =
    (help : List ℕ) (limits : Limits) (bytes : List ℕ) (script : Script) → script_of bytes ≡ Ok script → printed help limits bytes ≡ report_of limits script

-- if an input's bytes are known, and are a script without faults, the report of this script went out, and nothing else
abbrev pub Reports : Limits → Option (List ℕ) → Option (List ℕ) → Option (List ℕ) → Type 0
Reports limits None old new = ⊤
Reports limits (Some input) old new = IfOk (script_of input) (λ script. Appends old new (report_of limits script))

-- the responses to all lines that were taken in, except the last, went out, and none of these lines ends the prompt; if a write failed, a
-- beginning of the response to the last line may have gone out, too; if a read failed, no more than a beginning of the last line was taken
-- in
pub record IsCutShort (help : List ℕ) (limits : Limits) (fault : PromptFault) (input left : List ℕ) (old new : Option (List ℕ)) : Type 0 where
  pub finished : List ℕ
  pub last : List ℕ
  pub part : List ℕ
  pub taken : input ≡ finished ++ (last ++ left)
  pub one_line : StopsAt last 10
  pub out : Appends old new (printed help limits finished ++ part)
  pub beginning : StartsWith (printed help limits (finished ++ last)) (printed help limits finished ++ part)
  pub unwritten : fault ≢ WriteFault → part ≡ []
  pub within_line : fault ≡ ReadFault → All (λ b. b ≢ 10) last
  pub unended : HasNoQuit finished

-- how a prompt that ends early ends, if the reader's bytes are known
abbrev pub EndsEarly : List ℕ → Limits → PromptFault → Option (List ℕ) → Option (List ℕ) → Option (List ℕ) → Option (List ℕ) → Type 0
EndsEarly help limits fault None left old new = ⊤
EndsEarly help limits fault (Some input) None old new = ⊥
EndsEarly help limits fault (Some input) (Some left) old new = IsCutShort help limits fault input left old new
