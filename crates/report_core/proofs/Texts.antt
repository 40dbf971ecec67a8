-- Texts that are put together piece by piece.
use Rattle.std.proofs.Common.{◌≡◌, ℕ, ◌+◌, ◌<◌, ◌≤◌, List, [], ◌∷◌, ◌++◌, drop, length, sym, ap, ◌∙◌, append_assoc, append-nil}
use Rattle.std.proofs.lemmas.List.{at_drop_more, at_drop_all}
use Rattle.std.proofs.lemmas.Option.{unwrap_or-slice_get}
use Rattle.dots_core.specs.Names.{Names}
use Rattle.journal_core.specs.Journals.{Kept}
use Rattle.bench_core.specs.NameList.{Texts}
use Rattle.replica_core.specs.Replicas.{Replica}
use Rattle.report_core.specs.Dots.{name_line, name_lines}
use Rattle.report_core.specs.Rows.{name_at}
use Rattle.report_core.specs.StepText.{chosen_text, extract_from, kept_line, kept_lines}

-- one more name of an extract
pub extract_more : (chosen : Names) (names : Texts) (n : ℕ) (start now next : List ℕ) → n < length names →
    now ++ extract_from chosen n (drop n names) ≡ start → next ≡ now ++ chosen_text chosen n (name_at names n) →
    next ++ extract_from chosen (n + 1) (drop (n + 1) names) ≡ start
unfolding extract_from
extract_more chosen names n start now next within so_far more =
    let rest = extract_from chosen (n + 1) (drop (n + 1) names) in
    let here = chosen_text chosen n (name_at names n) in
    let split : extract_from chosen n (drop n names) ≡ here ++ rest =
    at_drop_more (extract_from chosen n) names n [] within
    ∙ ap (λ name. chosen_text chosen n name ++ rest) (sym (unwrap_or-slice_get names n [])) in
    ap (λ t. t ++ rest) more ∙ append_assoc now here rest ∙ ap (λ t. now ++ t) (sym split) ∙ so_far

-- no name is left
pub extract_all : (chosen : Names) (names : Texts) (n : ℕ) (start now : List ℕ) → length names ≤ n →
    now ++ extract_from chosen n (drop n names) ≡ start → now ≡ start
unfolding extract_from
extract_all chosen names n start now none so_far =
    sym (append-nil now) ∙ ap (λ t. now ++ t) (sym (at_drop_all (extract_from chosen n) names n none)) ∙ so_far

-- one more kept step
pub kept_more : (names : Texts) (k : Kept) (left rest : List Kept) (whole now next : List ℕ) → left ≡ k ∷ rest →
    now ++ kept_lines names left ≡ whole → next ≡ now ++ kept_line names k → next ++ kept_lines names rest ≡ whole
unfolding kept_lines
kept_more names k left rest whole now next first so_far more =
    ap (λ t. t ++ kept_lines names rest) more
    ∙ append_assoc now (kept_line names k) (kept_lines names rest)
    ∙ ap (λ l. now ++ kept_lines names l) (sym first)
    ∙ so_far

-- one more name of the statuses
pub name_lines_more : (r : Replica) (names : Texts) (n : ℕ) (name start now next : List ℕ) → n < length names →
    now ++ name_lines r n (drop n names) ≡ start → name ≡ name_at names n → next ≡ now ++ name_line r n name →
    next ++ name_lines r (n + 1) (drop (n + 1) names) ≡ start
unfolding name_lines
name_lines_more r names n name start now next within so_far is more =
    let rest = name_lines r (n + 1) (drop (n + 1) names) in
    let here = name_line r n name in
    let split : name_lines r n (drop n names) ≡ here ++ rest =
    at_drop_more (name_lines r n) names n [] within ∙ ap (λ t. name_line r n t ++ rest) (sym (is ∙ unwrap_or-slice_get names n [])) in
    ap (λ t. t ++ rest) more ∙ append_assoc now here rest ∙ ap (λ t. now ++ t) (sym split) ∙ so_far

-- no name is left
pub name_lines_all : (r : Replica) (names : Texts) (n : ℕ) (start now : List ℕ) → length names ≤ n →
    now ++ name_lines r n (drop n names) ≡ start → now ≡ start
unfolding name_lines
name_lines_all r names n start now none so_far =
    sym (append-nil now) ∙ ap (λ t. now ++ t) (sym (at_drop_all (name_lines r n) names n none)) ∙ so_far
