-- Rows that are put behind a text, and what an act puts there.
use Rattle.std.proofs.Common.{◌≡◌, ◌∙◌, ℕ, List, [], ◌∷◌, ◌++◌, sym, ap, refl, append-nil}
use Rattle.bench_core.specs.NameList.{Texts}
use Rattle.bench_core.specs.declared.fault.Fault.{Fault}
use Rattle.bench_core.specs.declared.reply.Reply.TheVariants.{Taken, Undone, Refused}
use Rattle.bench_core.specs.Acts.{Action}
use Rattle.bench_core.specs.Machine.{Machine, config_of}
use Rattle.bench_core.specs.Headline.{IsReached}
use Rattle.diff_core.specs.Rows.{Row}
use Rattle.report_core.specs.Rows.{change_lines, reply_line, row_line, row_lines}
use Rattle.report_core.specs.ActRows.{acted_text, PutsActed}
use Rattle.report_core.specs.ActTexts.{act_text, after_act, reply_of}
use Rattle.report_core.specs.StepDiffs.{PutsRows, TellsStep, TellsUndo}
use Rattle.report_core.proofs.StepDiffs.{acted_is, newest, refused_rows, taken_rows, undone_rows}

-- no row, and one row

pub no_row : (sign : List ℕ) (names : Texts) (rows : List Row) (old : List ℕ) → rows ≡ [] → old ≡ old ++ row_lines sign names rows
unfolding row_lines
no_row sign names rows old none = sym (append-nil old) ∙ ap (λ rs. old ++ row_lines sign names rs) (sym none)

pub one_row : (sign : List ℕ) (names : Texts) (rows : List Row) (row : Row) (old new : List ℕ) → rows ≡ row ∷ [] →
    new ≡ old ++ row_line sign names row → new ≡ old ++ row_lines sign names rows
unfolding row_lines
one_row sign names rows row old new one is =
    is ∙ ap (λ t. old ++ t) (sym (append-nil (row_line sign names row))) ∙ ap (λ rs. old ++ row_lines sign names rs) (sym one)

pub rows_told : (sign : List ℕ) (names : Texts) (rows told : List Row) (old new : List ℕ) → rows ≡ told →
    new ≡ old ++ row_lines sign names rows → new ≡ old ++ row_lines sign names told
rows_told sign names rows told old new same is = is ∙ ap (λ rs. old ++ row_lines sign names rs) same

no_lines : (names : Texts) (old : List ℕ) → old ≡ old ++ change_lines names [] []
unfolding change_lines row_lines
no_lines names old = sym (append-nil old)

-- nothing is put there
pub puts_none : (names : Texts) (old : List ℕ) (tells : List Row → List Row → Type 0) → tells [] [] → PutsRows names old old tells
puts_none names old tells told = record { left = []; joined = []; told = told; text = no_lines names old }

-- what an act puts there

pub taken_text : (m new : Machine) (actor : ℕ) (act : Action) (k : ℕ) (old text : List ℕ) → IsReached (config_of m) m.state →
    reply_of m actor act ≡ Taken k → new ≡ after_act m actor act → PutsActed new.names (Taken k) old text (TellsStep new k) →
    text ≡ old ++ act_text m actor act
taken_text m new actor act k old text reached took now puts =
    let rows = taken_rows m new actor act k puts.left puts.joined took now (newest m new actor act k reached took now) puts.told in
    puts.text ∙ ap (λ t. old ++ t) (acted_is m new actor act (Taken k) puts.left puts.joined now (sym took) rows.0 rows.1)

pub undone_text : (m new : Machine) (actor : ℕ) (act : Action) (k : ℕ) (left joined : List Row) (old text : List ℕ) →
    reply_of m actor act ≡ Undone k → new ≡ after_act m actor act → TellsUndo m act left joined →
    text ≡ old ++ acted_text new.names (Undone k) joined left → text ≡ old ++ act_text m actor act
undone_text m new actor act k left joined old text made now tells puts =
    let rows = undone_rows m actor act k left joined made tells in
    puts ∙ ap (λ t. old ++ t) (acted_is m new actor act (Undone k) joined left now (sym made) rows.0 rows.1)

pub refused_text : (m new : Machine) (actor : ℕ) (act : Action) (fault : Fault) (old text : List ℕ) → reply_of m actor act ≡ Refused fault →
    new ≡ after_act m actor act → text ≡ old ++ reply_line (Refused fault) → text ≡ old ++ act_text m actor act
unfolding acted_text
refused_text m new actor act fault old text refused now puts =
    let rows = refused_rows m actor act fault [] [] refused refl refl in
    puts ∙ ap (λ t. old ++ t) (no_lines new.names (reply_line (Refused fault))
    ∙ acted_is m new actor act (Refused fault) [] [] now (sym refused) rows.0 rows.1)
