-- The steps that are painted are those that an undo would take back.
use Rattle.std.proofs.Common.{◌≡◌, ℕ, List, [], sym, ap, ◌∙◌, None, Some}
use Rattle.bench_core.specs.Machine.{State}
use Rattle.journal_core.specs.Gathering.{gathered_numbers}
use Rattle.journal_core.specs.Journals.{Kept, find_number}
use Rattle.report_core.specs.ActTexts.{unless_none, unwound}

pub whole_future : (s : State) (n : ℕ) (numbers : List ℕ) → ((k : Kept) × (find_number s.remaining n ≡ Some k)) →
    numbers ≡ gathered_numbers s.remaining n → numbers ≡ unwound s n
unfolding unwound
whole_future s n numbers found whole = whole ∙ ap (λ o. unless_none o (gathered_numbers s.remaining n)) (sym found.1)

pub no_future : (s : State) (n : ℕ) → None ≡ find_number s.remaining n → [] ≡ unwound s n
unfolding unwound
no_future s n none = ap (λ o. unless_none o (gathered_numbers s.remaining n)) none
