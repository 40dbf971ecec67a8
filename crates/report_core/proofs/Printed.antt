-- What an unwind prints, and the refusals of `why`.
use Rattle.std.proofs.Common.{◌≡◌, ℕ, false, List, [], ◌++◌, length, Some, None}
use Rattle.std.proofs.Common.{sym, ap, ◌∙◌, append_assoc, true≢false}
use Rattle.bench_core.specs.declared.fault.Fault.{Fault}
use Rattle.bench_core.specs.declared.reply.Reply.TheVariants.{Refused}
use Rattle.journal_core.specs.Journals.{Kept, find_number}
use Rattle.journal_core.specs.Gathering.{gathered_numbers}
use Rattle.bench_core.specs.Machine.{Machine, State, config_of, with_state, calls}
use Rattle.bench_core.specs.Unwinds.{Unexplained, Gone, Unmade, undos}
use Rattle.diff_core.specs.Rows.{Row}
use Rattle.report_core.specs.Rows.{reply_line, undone_lines}
use Rattle.report_core.specs.Shown.{rows_to}
use Rattle.report_core.specs.ActTexts.{unless_gone, unless_none, is_out_of_memory, unwound, after_unwind, unwind_text}
use Rattle.report_core.specs.ActTexts.{changes_from, changes_text}

-- the refusal of `why` is that of the undo
pub gone_text : (s : State) (n : ℕ) (fault : Fault) (text : List ℕ) → Unexplained s n fault → is_out_of_memory fault ≡ false →
    reply_line (Refused fault) ≡ unless_gone s n (find_number s.remaining n) text
gone_text s n _ text (Gone fault none refused) other = ap reply_line (sym refused) ∙ ap (λ o. unless_gone s n o text) (sym none)
gone_text s n _ text (Unmade k found) other = absurd (true≢false other)

-- an unwind

pub unwound_bench : (m new : Machine) (actor n : ℕ) (numbers : List ℕ) → ((k : Kept) × (find_number m.state.remaining n ≡ Some k)) →
    numbers ≡ gathered_numbers m.state.remaining n → new ≡ with_state m (calls (config_of m) m.state (undos actor numbers)) →
    new ≡ after_unwind m actor n
unfolding after_unwind unwound
unwound_bench m new actor n numbers found whole now =
    now ∙ ap (λ ns. with_state m (calls (config_of m) m.state (undos actor ns)))
    (whole ∙ ap (λ o. unless_none o (gathered_numbers m.state.remaining n)) (sym found.1))

pub unwound_text : (m new : Machine) (actor n : ℕ) (numbers : List ℕ) (lists : List (List Row)) (start middle end : List ℕ) →
    ((k : Kept) × (find_number m.state.remaining n ≡ Some k)) → numbers ≡ gathered_numbers m.state.remaining n
    → new ≡ after_unwind m actor n → lists ≡ rows_to m (length m.names) → middle ≡ start ++ undone_lines numbers →
    end ≡ middle ++ changes_from new 0 lists → end ≡ start ++ unwind_text m actor n
unfolding unwind_text changes_text
unwound_text m new actor n numbers lists start middle end found whole now were first second =
    second ∙ ap (λ t. t ++ changes_from new 0 lists) first ∙ append_assoc start (undone_lines numbers) (changes_from new 0 lists)
    ∙ ap (λ t. start ++ t)
    (ap (λ ns. undone_lines ns ++ changes_from new 0 lists) whole
    ∙ ap (λ x. undone_lines (gathered_numbers m.state.remaining n) ++ changes_from x 0 lists) now
    ∙ ap (λ ls. undone_lines (gathered_numbers m.state.remaining n) ++ changes_from (after_unwind m actor n) 0 ls) were
    ∙ ap (λ o. unless_gone m.state n o
    (undone_lines (gathered_numbers m.state.remaining n) ++ changes_from (after_unwind m actor n) 0 (rows_to m (length m.names))))
    (sym found.1))

gone_none : (s : State) (n : ℕ) (fault : Fault) → Unexplained s n fault → is_out_of_memory fault ≡ false → find_number s.remaining n ≡ None
gone_none s n _ (Gone fault none refused) other = none
gone_none s n _ (Unmade k found) other = absurd (true≢false other)

pub gone_bench : (m new : Machine) (actor n : ℕ) (fault : Fault) → Unexplained m.state n fault → is_out_of_memory fault ≡ false →
    new ≡ with_state m (calls (config_of m) m.state (undos actor [])) → new ≡ after_unwind m actor n
unfolding after_unwind unwound
gone_bench m new actor n fault gone told now =
    now ∙ ap (λ o. with_state m (calls (config_of m) m.state (undos actor (unless_none o (gathered_numbers m.state.remaining n)))))
    (sym (gone_none m.state n fault gone told))

pub gone_unwind : (m : Machine) (actor n : ℕ) (fault : Fault) → Unexplained m.state n fault → is_out_of_memory fault ≡ false →
    reply_line (Refused fault) ≡ unwind_text m actor n
unfolding unwind_text
gone_unwind m actor n fault gone told = gone_text m.state n fault _ gone told
