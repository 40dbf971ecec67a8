-- The text of what would have made a difference.
use Rattle.std.specs.Prelude.{ℕ, suc, nat_lt, if◌then◌else◌, List, [], ◌∷◌, ◌++◌, length, codes, decimal, slice_get, Option, Some, None}
use Rattle.journal_core.specs.Journals.{Kept}
use Rattle.bench_core.specs.Machine.{Machine}
use Rattle.bench_core.specs.NameList.{Texts}
use Rattle.diff_core.specs.Rows.{Row}
use Rattle.diff_core.specs.Diffs.{alone}
use Rattle.report_core.specs.Rows.{name_at, row_lines, change_lines}
use Rattle.report_core.specs.StepText.{act_line}
use Rattle.change_core.specs.declared.change.Kind.{Kind}
use Rattle.change_core.specs.declared.change.Kind.TheVariants.{Lost, Never, Before, Behind, Again}
use Rattle.change_core.specs.Changes.{changes}
use Rattle.whatif_core.specs.Differences.{Difference, Tally, nearest, tally_of}
use Rattle.change_core.specs.Ends.{rows_before}
use Rattle.change_core.specs.Questions.{Question}

abbrev pub kept_words : Texts → Option Kept → List ℕ
kept_words names None = []
kept_words names (Some k) = decimal k.number ++ codes " " ++ act_line names k.node k.step

-- `NUMBER NODE VERB ..` of the step at this place
unfoldable pub step_words : Texts → List Kept → ℕ → List ℕ
step_words names ks i = kept_words names (slice_get ks i)

abbrev pub kind_word : Kind → List ℕ
kind_word Lost = codes "lost "
kind_word Never = codes "never "
kind_word Before = codes "moved "
kind_word Behind = codes "moved "
kind_word Again = codes "again "

abbrev pub side_words : Kind → List ℕ → List ℕ
side_words Lost beside = []
side_words Never beside = []
side_words Before beside = codes " before " ++ beside
side_words Behind beside = codes " behind " ++ beside
side_words Again beside = codes " behind " ++ beside

-- ` places K`, if there are several
abbrev pub places_words : ℕ → List ℕ
places_words count = if nat_lt 1 count then codes " places " ++ decimal count else []

-- `change N KIND NUMBER NODE VERB ..`
unfoldable pub changed_words : Texts → List Kept → ℕ → Difference → List ℕ
changed_words names ks n d = codes "change " ++ decimal n ++ codes " " ++ kind_word d.kind ++ step_words names ks d.place

-- `change .. [before|behind NUMBER NODE VERB ..] [places K]`
unfoldable pub change_line : Texts → List Kept → ℕ → Difference → List ℕ
change_line names ks n d =
    changed_words names ks n d ++ side_words d.kind (step_words names ks (nearest d)) ++ places_words (length d.besides) ++ codes "\n"

-- the line of a change, and the rows that it takes away and brings
unfoldable pub difference_text : Texts → List Kept → List Row → ℕ → Difference → List ℕ
difference_text names ks before n d = change_line names ks n d ++ change_lines names (alone before d.rows) (alone d.rows before)

-- the texts of the differences, numbered from n on
unfoldable pub differences_text : Texts → List Kept → List Row → ℕ → List Difference → List ℕ
differences_text names ks before n [] = []
differences_text names ks before n (d ∷ ds) = difference_text names ks before n d ++ differences_text names ks before (suc n) ds

-- `whatif NODE TOPIC KEY`
unfoldable pub asked_words : Texts → Question → List ℕ
asked_words names q = codes "whatif " ++ name_at names q.node ++ codes " " ++ q.topic ++ codes " " ++ q.key

-- ` tried T possible P differ D`
unfoldable pub counts_words : ℕ → ℕ → ℕ → List ℕ
counts_words tried possible differ =
    codes " tried " ++ decimal tried ++ codes " possible " ++ decimal possible ++ codes " differ " ++ decimal differ ++ codes "\n"

-- `whatif NODE TOPIC KEY tried T possible P differ D`
unfoldable pub head_line : Texts → Question → ℕ → Tally → List ℕ
head_line names q tried t = asked_words names q ++ counts_words tried t.possible t.differ

-- the whole text: how many changes there are, how many of them are possible and how many make a difference, the rows of
-- the recorded run, and each difference
unfoldable pub whatif_text : Machine → Question → List ℕ
whatif_text m q =
    head_line m.names q (length (changes m.state.remaining)) (tally_of m q) ++ row_lines (codes "= ") m.names (rows_before m q) ++
    differences_text m.names m.state.remaining (rows_before m q) 1 (tally_of m q).told
