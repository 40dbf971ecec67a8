-- What an act, an unwind and a future print, by the machine before them.
use Rattle.std.specs.Prelude.{◌≡◌, ℕ, ◌+◌, List, [], ◌∷◌, ◌++◌, length, Bool, true, false, Option, Some, None}
use Rattle.bench_core.specs.declared.reply.Reply.{Reply}
use Rattle.bench_core.specs.declared.fault.Fault.{Fault}
use Rattle.bench_core.specs.declared.fault.Fault.TheVariants.{OutOfMemory}
use Rattle.journal_core.specs.Journals.{Kept, find_number}
use Rattle.journal_core.specs.Gathering.{gathered_numbers}
use Rattle.bench_core.specs.Acts.{Action}
use Rattle.bench_core.specs.Machine.{Machine, State, config_of, with_state, reply_to, undo_reply, call, calls}
use Rattle.bench_core.specs.Unwinds.{undos}
use Rattle.diff_core.specs.Rows.{Row}
use Rattle.report_core.specs.Rows.{diff_text, at_text, reply_line, future_line, undone_lines}
use Rattle.report_core.specs.Shown.{rows_at, rows_of, rows_to, changed}

-- an act

unfoldable pub reply_of : Machine → ℕ → Action → Reply
reply_of m actor act = reply_to (config_of m) m.state actor act

unfoldable pub after_act : Machine → ℕ → Action → Machine
after_act m actor act = with_state m (call (config_of m) m.state actor act)

-- how the online list of a node changed
unfoldable pub change_text : Machine → Machine → Option ℕ → List ℕ
change_text old new node = diff_text old.names (rows_of old node) (rows_of new node)

-- the reply, and how the act changed the online list of the node whose step it took or took back
unfoldable pub act_text : Machine → ℕ → Action → List ℕ
act_text m actor act =
    reply_line (reply_of m actor act) ++ change_text m (after_act m actor act) (changed m.state.remaining actor (reply_of m actor act))

-- an unwind, and `why`

-- whether the fault is want of memory, which a report never has
abbrev pub is_out_of_memory : Fault → Bool
is_out_of_memory OutOfMemory = true
is_out_of_memory _ = false

-- the text, if the step with this number remains; and else the refusal of its undo
abbrev pub unless_gone : State → ℕ → Option Kept → List ℕ → List ℕ
unless_gone s number None text = reply_line (undo_reply s number)
unless_gone s number (Some step) text = text

unfoldable pub why_text : Machine → ℕ → List ℕ
why_text m number =
    unless_gone m.state number (find_number m.state.remaining number) (future_line (gathered_numbers m.state.remaining number))

-- the numbers, or none if there is no step
abbrev pub unless_none : Option Kept → List ℕ → List ℕ
unless_none None numbers = []
unless_none (Some step) numbers = numbers

-- the numbers of the steps that an unwind takes back, greatest first
unfoldable pub unwound : State → ℕ → List ℕ
unwound s number = unless_none (find_number s.remaining number) (gathered_numbers s.remaining number)

unfoldable pub after_unwind : Machine → ℕ → ℕ → Machine
after_unwind m actor number = with_state m (calls (config_of m) m.state (undos actor (unwound m.state number)))

-- how the lists of the nodes from number n on changed, if these were the lists before
unfoldable pub changes_from : Machine → ℕ → List (List Row) → List ℕ
changes_from new n [] = []
changes_from new n (before ∷ lists) = at_text new.names n before (rows_at new n) ++ changes_from new (n + 1) lists

unfoldable pub changes_text : Machine → Machine → List ℕ
changes_text old new = changes_from new 0 (rows_to old (length old.names))

unfoldable pub unwind_text : Machine → ℕ → ℕ → List ℕ
unwind_text m actor number =
    unless_gone m.state number (find_number m.state.remaining number)
    (undone_lines (gathered_numbers m.state.remaining number) ++ changes_text m (after_unwind m actor number))

-- the step remains, and these are the numbers of the step and of all that follows from it
pub record IsItsFuture (m : Machine) (n : ℕ) (numbers : List ℕ) : Type 0 where
  pub step : Kept
  pub found : find_number m.state.remaining n ≡ Some step
  pub whole : numbers ≡ gathered_numbers m.state.remaining n
