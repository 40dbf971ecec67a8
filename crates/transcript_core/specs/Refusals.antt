-- The first call that was refused.
use Rattle.std.specs.Prelude.{ℕ, ◌+◌, List, [], ◌∷◌, Option, Some, None}
use Rattle.journal_core.specs.Journals.{Kept, find_number}
use Rattle.bench_core.specs.declared.reply.Reply.{Reply}
use Rattle.bench_core.specs.declared.reply.Reply.TheVariants.{Refused}
use Rattle.bench_core.specs.declared.fault.Fault.{Fault}
use Rattle.bench_core.specs.Limits.{Limits}
use Rattle.bench_core.specs.Machine.{Event, Machine, State, opening_machine, undo_reply}
use Rattle.grammar_core.specs.Scripts.{Command, Call, Unwind, Line, Script}
use Rattle.report_core.specs.ActTexts.{reply_of}
use Rattle.run_core.specs.Report.{after_command}
use Rattle.transcript_core.specs.declared.refusals.Refusal.{Refusal}

abbrev pub fault_in : Reply → Option Fault
fault_in (Refused fault) = Some fault
fault_in _ = None

-- the fault of an unwind: that of an undo of the step, if the step doesn't remain; else none
abbrev pub unwind_refusal : State → ℕ → Option Kept → Option Fault
unwind_refusal s number None = fault_in (undo_reply s number)
unwind_refusal s number (Some step) = None

-- why an act line or an unwind is refused, if it is
unfoldable pub refusal_of : Machine → Command → Option Fault
refusal_of m (Call actor act) = fault_in (reply_of m actor act)
refusal_of m (Unwind actor number) = unwind_refusal m.state number (find_number m.state.remaining number)
refusal_of m _ = None

abbrev pub first_of : ℕ → Option Fault → Option Refusal → Option Refusal
first_of number None later = later
first_of number (Some fault) later = Some (record { number = number; fault = fault })

-- the first of these lines that is refused, if they are asked of this machine one after another; and why
unfoldable pub first_from : Machine → List Line → Option Refusal
first_from m [] = None
first_from m (line ∷ lines) = first_of line.number (refusal_of m line.command) (first_from (after_command m line.command) lines)

-- the first line of a script that is refused, if it is played with these limits
unfoldable pub first_refused : Limits → Script → Option Refusal
first_refused limits script = first_from (opening_machine script.cast.nodes limits) script.lines

-- why this recorded call was refused, if there is one and it was
abbrev pub refusal_in : Option Event → Option Fault
refusal_in None = None
refusal_in (Some e) = fault_in e.reply

-- the first of these recorded calls that was refused, and why; the first of the calls has the number n
unfoldable pub first_recorded : ℕ → List Event → Option Refusal
first_recorded n [] = None
first_recorded n (e ∷ es) = first_of n (fault_in e.reply) (first_recorded (n + 1) es)

-- the first refused call that a bench recorded
abbrev pub first_in : Machine → Option Refusal
first_in m = first_recorded 1 m.state.history
