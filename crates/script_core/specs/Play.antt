-- What a play writes.
use Rattle.std.specs.Prelude.{◌≡◌, ◌≢◌, ℕ, ◌+◌, ◌<◌, List, length, take, ⊤, Option, None, Some, Result, Ok, Err, IsOkAnd}
use Rattle.std.specs.Io.KnownBytes.{Appends, Keeps}
use Rattle.bench_core.specs.Limits.{Limits}
use Rattle.grammar_core.specs.Grammar.{script_of}
use Rattle.run_core.specs.Report.{report_of}
use Rattle.stream_core.specs.Steps.{Steps}
use Rattle.grammar_core.specs.declared.fault.FaultKind.TheVariants.{OutOfMemory}
use Rattle.script_core.specs.declared.play_fault.PlayFault.{PlayFault}
use Rattle.script_core.specs.declared.play_fault.PlayFault.TheVariants as faults

-- what went out, by the result: the report of the input; nothing, if the input has a fault; the first `written` bytes of the
-- report, if a write failed; and else nothing
abbrev pub Ends : List ℕ → Limits → Result (Unit {0}) PlayFault → Option (List ℕ) → Option (List ℕ) → Type 0
Ends input limits (Ok _) old new = IsOkAnd (script_of input) (λ script. Appends old new (report_of limits script))
Ends input limits (Err (faults.Script fault)) old new = (script_of input ≡ Err fault) × Keeps old new
Ends input limits (Err faults.ReadFault) old new = Keeps old new
Ends input limits (Err (faults.WriteFault written)) old new =
    IsOkAnd (script_of input) (λ script. (written < length (report_of limits script)) ×
    Appends old new (take written (report_of limits script)))
Ends input limits (Err faults.OutOfMemory) old new = Keeps old new

-- what went out, by the result, if the reader's bytes are known
abbrev pub EndsAt : Option (List ℕ) → Limits → Result (Unit {0}) PlayFault → Option (List ℕ) → Option (List ℕ) → Type 0
EndsAt None limits result old new = ⊤
EndsAt (Some input) limits result old new = Ends input limits result old new

-- a call of `read` failed if and only if the result is a read fault, and then only one: it wasn't tried again
abbrev pub FailsAs : Result (Unit {0}) PlayFault → Steps → Steps → Type 0
FailsAs (Err faults.ReadFault) old new = new.failed ≡ old.failed + 1
FailsAs (Ok _) old new = new.failed ≡ old.failed
FailsAs (Err (faults.Script fault)) old new = new.failed ≡ old.failed
FailsAs (Err (faults.WriteFault written)) old new = new.failed ≡ old.failed
FailsAs (Err faults.OutOfMemory) old new = new.failed ≡ old.failed

-- nothing went out for a fault that came before the writing
abbrev pub KeepsBefore : PlayFault → Option (List ℕ) → Option (List ℕ) → Type 0
KeepsBefore (faults.WriteFault written) old new = ⊤
KeepsBefore _ old new = Keeps old new

-- want of memory never comes as a fault of the script
abbrev pub TellsMemory : PlayFault → Type 0
TellsMemory (faults.Script fault) = fault.kind ≢ OutOfMemory
TellsMemory _ = ⊤
