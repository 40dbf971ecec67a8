-- What is made of the events of logs, once it is printed.
use Rattle.std.proofs.Common.{◌≡◌, inl, inr, ℕ, Bool, true, false, List, [], ◌∷◌, length, take, Option, None, Some, Result, Ok, Err, IfErr, refl, ap, subst}
use Rattle.bench_core.specs.Limits.{Limits}
use Rattle.command_line.specs.declared.chosen.Form.{Form}
use Rattle.command_line.specs.declared.chosen.Form.TheVariants as forms
use Rattle.command_line.specs.declared.chosen.ImportOptions.{ImportOptions}
use Rattle.command_line.specs.declared.chosen.Subcommand.TheVariants.{Import}
use Rattle.stream_core.specs.Inputs.{IsWhole}
use Rattle.stream_core.specs.Steps.{Steps}
use Rattle.import_core.specs.declared.fault.FaultKind.{FaultKind}
use Rattle.import_core.specs.declared.fault.FaultKind.TheVariants as kinds
use Rattle.import_core.specs.declared.fault.ImportFault.{ImportFault}
use Rattle.program_core.specs.declared.fault.ProgramFault.{ProgramFault}
use Rattle.program_core.specs.declared.fault.ProgramFault.TheVariants as faults
use Rattle.program_core.specs.Imported.{EndsAsMade, IsMade, IsUnmade, RefusesEvents, RefusesEventsAt, RefusesImport, RefusesImportAt, TellsAll, TellsLines, TellsMade, TellsMissing}
use Rattle.program_core.specs.Program.{EndsAt, Ends, FailsAs, IsUnwritten, KeepsBefore, TellsMemory, fault_of_import}
use Rattle.program_core.proofs.Printed.{cause_ends}

-- the fault of an import as the program's

module _ (check lines lenient : Bool) (form : Form) (limits : Limits) (input : List ℕ) where
  by_kind : (line : ℕ) (kind : FaultKind) → IsUnmade check lines lenient form limits input (record { line = line; kind = kind }) →
      RefusesImport check lines lenient form limits input (fault_of_import (record { line = line; kind = kind }))
  by_kind line kinds.TooLong is = is
  by_kind line kinds.NotJson is = is
  by_kind line kinds.BadEvent is = is
  by_kind line kinds.TooManyNodes is = is
  by_kind line kinds.NoNodes is = is
  by_kind line kinds.Twice is = is
  by_kind line kinds.NeverSent is = is
  by_kind line kinds.Circle is = is
  by_kind line kinds.OutOfMemory is = tt

  pub refuses_import : (fault : ImportFault) → IsUnmade check lines lenient form limits input fault →
      RefusesImport check lines lenient form limits input (fault_of_import fault)
  refuses_import fault is = by_kind fault.line fault.kind is

memory_by : (line : ℕ) (kind : FaultKind) → TellsMemory (fault_of_import (record { line = line; kind = kind }))
memory_by line kinds.TooLong = λ e. cc
memory_by line kinds.NotJson = λ e. cc
memory_by line kinds.BadEvent = λ e. cc
memory_by line kinds.TooManyNodes = λ e. cc
memory_by line kinds.NoNodes = λ e. cc
memory_by line kinds.Twice = λ e. cc
memory_by line kinds.NeverSent = λ e. cc
memory_by line kinds.Circle = λ e. cc
memory_by line kinds.OutOfMemory = tt

pub import_memory : (fault : ImportFault) → TellsMemory (fault_of_import fault)
import_memory fault = memory_by fault.line fault.kind

unwritten_by : (line : ℕ) (kind : FaultKind) → IsUnwritten (fault_of_import (record { line = line; kind = kind }))
unwritten_by line kinds.TooLong = tt
unwritten_by line kinds.NotJson = tt
unwritten_by line kinds.BadEvent = tt
unwritten_by line kinds.TooManyNodes = tt
unwritten_by line kinds.NoNodes = tt
unwritten_by line kinds.Twice = tt
unwritten_by line kinds.NeverSent = tt
unwritten_by line kinds.Circle = tt
unwritten_by line kinds.OutOfMemory = tt

pub import_unwritten : (fault : ImportFault) → IsUnwritten (fault_of_import fault)
import_unwritten fault = unwritten_by fault.line fault.kind

read_by : (line : ℕ) (kind : FaultKind) → fault_of_import (record { line = line; kind = kind }) ≡ faults.ReadFault → ⊥
read_by line kinds.TooLong e = cc
read_by line kinds.NotJson e = cc
read_by line kinds.BadEvent e = cc
read_by line kinds.TooManyNodes e = cc
read_by line kinds.NoNodes e = cc
read_by line kinds.Twice e = cc
read_by line kinds.NeverSent e = cc
read_by line kinds.Circle e = cc
read_by line kinds.OutOfMemory e = cc

pub import_unread : (fault : ImportFault) → fault_of_import fault ≡ faults.ReadFault → ⊥
import_unread fault e = read_by fault.line fault.kind e

-- what was printed

module _ (wanted : ImportOptions) (form : Form) (limits : Limits) (text left_out : List ℕ) (full : Bool) (old new : Option (List ℕ)) where
  ends_made : (input : List ℕ) (differs : Bool) (r : Result (Unit {0}) ProgramFault) → IsMade wanted.check wanted.lines wanted.lenient form limits input text differs left_out full →
      EndsAsMade text differs r old new → Ends (Import wanted) form limits input r old new
  ends_made input differs (Ok u) is e = (text, (left_out, full, subst (λ b. IsMade wanted.check wanted.lines wanted.lenient form limits input text b left_out full) e.0 is), e.1, refl)
  ends_made input differs (Err faults.Differs) is e = (text, (left_out, full, subst (λ b. IsMade wanted.check wanted.lines wanted.lenient form limits input text b left_out full) e.0 is), e.1)
  ends_made input true (Err (faults.WriteFault written)) is e = (text, inr (left_out, full, is), e.0, e.1)
  ends_made input false (Err (faults.WriteFault written)) is e = (text, inl (left_out, full, is), e.0, e.1)
  ends_made input differs (Err (faults.Script fault)) is e = elim e [ ]
  ends_made input differs (Err (faults.Session fault)) is e = elim e [ ]
  ends_made input differs (Err faults.LongSession) is e = elim e [ ]
  ends_made input differs (Err (faults.Import fault)) is e = elim e [ ]
  ends_made input differs (Err faults.LongImport) is e = elim e [ ]
  ends_made input differs (Err (faults.Race fault)) is e = elim e [ ]
  ends_made input differs (Err (faults.Explore fault)) is e = elim e [ ]
  ends_made input differs (Err (faults.Explain fault)) is e = elim e [ ]
  ends_made input differs (Err (faults.Draw fault)) is e = elim e [ ]
  ends_made input differs (Err (faults.Whatif fault)) is e = elim e [ ]
  ends_made input differs (Err (faults.Transcript fault)) is e = elim e [ ]
  ends_made input differs (Err (faults.Refused act)) is e = elim e [ ]
  ends_made input differs (Err (faults.Prompt fault)) is e = elim e [ ]
  ends_made input differs (Err faults.ReadFault) is e = elim e [ ]
  ends_made input differs (Err faults.OutOfMemory) is e = elim e [ ]

  pub ends_import : (known : Option (List ℕ)) (bytes : List ℕ) (differs : Bool) (r : Result (Unit {0}) ProgramFault) → IsWhole known bytes →
      IsMade wanted.check wanted.lines wanted.lenient form limits bytes text differs left_out full → EndsAsMade text differs r old new →
      EndsAt (Import wanted) form limits known r old new
  ends_import None bytes differs r whole is e = tt
  ends_import (Some input) bytes differs r whole is e =
      ends_made input differs r (subst (λ (b : List ℕ). IsMade wanted.check wanted.lines wanted.lenient form limits b text differs left_out full) whole is) e

module _ (text : List ℕ) (differs : Bool) (old new : Option (List ℕ)) where
  pub made_before : (r : Result (Unit {0}) ProgramFault) → EndsAsMade text differs r old new → IfErr r (λ fault. KeepsBefore fault old new)
  made_before (Ok u) e = tt
  made_before (Err faults.Differs) e = tt
  made_before (Err (faults.WriteFault written)) e = tt
  made_before (Err (faults.Script fault)) e = elim e [ ]
  made_before (Err (faults.Session fault)) e = elim e [ ]
  made_before (Err faults.LongSession) e = elim e [ ]
  made_before (Err (faults.Import fault)) e = elim e [ ]
  made_before (Err faults.LongImport) e = elim e [ ]
  made_before (Err (faults.Race fault)) e = elim e [ ]
  made_before (Err (faults.Explore fault)) e = elim e [ ]
  made_before (Err (faults.Explain fault)) e = elim e [ ]
  made_before (Err (faults.Draw fault)) e = elim e [ ]
  made_before (Err (faults.Whatif fault)) e = elim e [ ]
  made_before (Err (faults.Transcript fault)) e = elim e [ ]
  made_before (Err (faults.Refused act)) e = elim e [ ]
  made_before (Err (faults.Prompt fault)) e = elim e [ ]
  made_before (Err faults.ReadFault) e = elim e [ ]
  made_before (Err faults.OutOfMemory) e = elim e [ ]

  pub made_memory : (r : Result (Unit {0}) ProgramFault) → EndsAsMade text differs r old new → IfErr r TellsMemory
  made_memory (Ok u) e = tt
  made_memory (Err faults.Differs) e = tt
  made_memory (Err (faults.WriteFault written)) e = tt
  made_memory (Err (faults.Script fault)) e = elim e [ ]
  made_memory (Err (faults.Session fault)) e = elim e [ ]
  made_memory (Err faults.LongSession) e = elim e [ ]
  made_memory (Err (faults.Import fault)) e = elim e [ ]
  made_memory (Err faults.LongImport) e = elim e [ ]
  made_memory (Err (faults.Race fault)) e = elim e [ ]
  made_memory (Err (faults.Explore fault)) e = elim e [ ]
  made_memory (Err (faults.Explain fault)) e = elim e [ ]
  made_memory (Err (faults.Draw fault)) e = elim e [ ]
  made_memory (Err (faults.Whatif fault)) e = elim e [ ]
  made_memory (Err (faults.Transcript fault)) e = elim e [ ]
  made_memory (Err (faults.Refused act)) e = elim e [ ]
  made_memory (Err (faults.Prompt fault)) e = elim e [ ]
  made_memory (Err faults.ReadFault) e = elim e [ ]
  made_memory (Err faults.OutOfMemory) e = elim e [ ]

  pub made_fails : (r : Result (Unit {0}) ProgramFault) (before after : Steps) → EndsAsMade text differs r old new → after.failed ≡ before.failed → FailsAs r before after
  made_fails (Ok u) before after e same = same
  made_fails (Err faults.Differs) before after e same = same
  made_fails (Err (faults.WriteFault written)) before after e same = same
  made_fails (Err (faults.Script fault)) before after e same = elim e [ ]
  made_fails (Err (faults.Session fault)) before after e same = elim e [ ]
  made_fails (Err faults.LongSession) before after e same = elim e [ ]
  made_fails (Err (faults.Import fault)) before after e same = elim e [ ]
  made_fails (Err faults.LongImport) before after e same = elim e [ ]
  made_fails (Err (faults.Race fault)) before after e same = elim e [ ]
  made_fails (Err (faults.Explore fault)) before after e same = elim e [ ]
  made_fails (Err (faults.Explain fault)) before after e same = elim e [ ]
  made_fails (Err (faults.Draw fault)) before after e same = elim e [ ]
  made_fails (Err (faults.Whatif fault)) before after e same = elim e [ ]
  made_fails (Err (faults.Transcript fault)) before after e same = elim e [ ]
  made_fails (Err (faults.Refused act)) before after e same = elim e [ ]
  made_fails (Err (faults.Prompt fault)) before after e same = elim e [ ]
  made_fails (Err faults.ReadFault) before after e same = elim e [ ]
  made_fails (Err faults.OutOfMemory) before after e same = elim e [ ]

-- what refuses them

module _ (wanted : ImportOptions) (form : Form) (limits : Limits) where
  pub refused_ends : (known old : Option (List ℕ)) (fault : ProgramFault) → RefusesImportAt wanted.check wanted.lines wanted.lenient form limits known fault → IsUnwritten fault →
      EndsAt (Import wanted) form limits known (Err fault) old old
  refused_ends None old fault cause before = tt
  refused_ends (Some input) old fault cause before = cause_ends (Import wanted) form limits input fault old cause before

module _ (check lines lenient : Bool) (form : Form) (limits : Limits) where
  pub refuses_whole : (known : Option (List ℕ)) (bytes : List ℕ) (fault : ProgramFault) → IsWhole known bytes →
      RefusesImport check lines lenient form limits bytes fault → RefusesImportAt check lines lenient form limits known fault
  refuses_whole None bytes fault whole refuses = tt
  refuses_whole (Some input) bytes fault whole refuses = subst (λ (b : List ℕ). RefusesImport check lines lenient form limits b fault) whole refuses

  events_refuse : (input : List ℕ) (fault : ProgramFault) → RefusesEvents input fault → RefusesImport check lines lenient form limits input fault
  events_refuse input faults.LongImport refuses = refuses
  events_refuse input faults.ReadFault refuses = tt
  events_refuse input faults.OutOfMemory refuses = tt
  events_refuse input (faults.Script fault) refuses = elim refuses [ ]
  events_refuse input (faults.Session fault) refuses = elim refuses [ ]
  events_refuse input faults.LongSession refuses = elim refuses [ ]
  events_refuse input (faults.Import fault) refuses = elim refuses [ ]
  events_refuse input faults.Differs refuses = elim refuses [ ]
  events_refuse input (faults.Race fault) refuses = elim refuses [ ]
  events_refuse input (faults.Explore fault) refuses = elim refuses [ ]
  events_refuse input (faults.Explain fault) refuses = elim refuses [ ]
  events_refuse input (faults.Draw fault) refuses = elim refuses [ ]
  events_refuse input (faults.Whatif fault) refuses = elim refuses [ ]
  events_refuse input (faults.Transcript fault) refuses = elim refuses [ ]
  events_refuse input (faults.Refused act) refuses = elim refuses [ ]
  events_refuse input (faults.Prompt fault) refuses = elim refuses [ ]
  events_refuse input (faults.WriteFault written) refuses = elim refuses [ ]

  pub events_refuse_at : (known : Option (List ℕ)) (fault : ProgramFault) → RefusesEventsAt known fault → RefusesImportAt check lines lenient form limits known fault
  events_refuse_at None fault refuses = tt
  events_refuse_at (Some input) fault refuses = events_refuse input fault refuses

-- what is told beside it

pub told_missing : (check lines lenient : Bool) (form : Form) (limits : Limits) (known : Option (List ℕ)) (bytes text : List ℕ) (differs : Bool) (left_out : List ℕ)
    (full : Bool) (old new : Option (List ℕ)) → IsWhole known bytes → IsMade check lines lenient form limits bytes text differs left_out full →
    TellsLines left_out full old new → TellsMissing check lines lenient form limits known old new
told_missing check lines lenient form limits None bytes text differs left_out full old new whole is told = tt
told_missing check lines lenient form limits (Some input) bytes text differs left_out full old new whole is told =
    inr (text, differs, left_out, full, subst (λ (b : List ℕ). IsMade check lines lenient form limits b text differs left_out full) whole is, told)

pub told_all : (check lines lenient : Bool) (form : Form) (limits : Limits) (known : Option (List ℕ)) (bytes text : List ℕ) (differs : Bool) (left_out : List ℕ)
    (full lost : Bool) (old new : Option (List ℕ)) → IsWhole known bytes → IsMade check lines lenient form limits bytes text differs left_out full →
    TellsAll left_out full lost old new → TellsMade check lines lenient form limits known lost old new
told_all check lines lenient form limits None bytes text differs left_out full lost old new whole is told = tt
told_all check lines lenient form limits (Some input) bytes text differs left_out full lost old new whole is told =
    (text, differs, left_out, full, subst (λ (b : List ℕ). IsMade check lines lenient form limits b text differs left_out full) whole is, told)

pub told_nothing : (check lines lenient : Bool) (form : Form) (limits : Limits) (known old : Option (List ℕ)) →
    TellsMissing check lines lenient form limits known old old
told_nothing check lines lenient form limits None old = tt
told_nothing check lines lenient form limits (Some input) None = inl tt
told_nothing check lines lenient form limits (Some input) (Some bytes) = inl refl
