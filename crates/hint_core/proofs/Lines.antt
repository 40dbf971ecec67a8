-- The words of a line that are looked at, and texts that are put one behind another.
use Rattle.std.proofs.Common.{◌≡◌, ℕ, ◌≤◌, ◌++◌, Bool, true, false, List, length, take, Some, None, Option, if◌then◌else◌, Result, Ok, Err, OnOk, refl, ap, ◌∙◌, append_assoc, arith}
use Rattle.std.proofs.lemmas.Grind.{common_steps}
use Rattle.grammar_core.specs.Words.{is_text, words_of}
use Rattle.hint_core.specs.LineWords.{few_words}

pub take_short : {A : Type 0} (n : ℕ) (xs : List A) → length (take n xs) ≤ n
take_short n xs = grind (arith, common_steps)

-- those of a line that is this text
pub few_of_text : (line text : List ℕ) → Some text ≡ (if is_text line then Some line else None) → take 34 (words_of text) ≡ few_words line
few_of_text line text same = by (is_text line) refl same
  where
    by : (b : Bool) → is_text line ≡ b → Some text ≡ (if b then Some line else None) → take 34 (words_of text) ≡ few_words line
    by true is same = let e : text ≡ line = cc in rw (is, e) refl
    by false is same = cc

-- two that were put, one behind the other
pub two_pieces : {A E : Type 0} (answer : Result A E) (old middle new first second : List ℕ) →
    middle ≡ old ++ first → OnOk answer (new ≡ middle ++ second) → OnOk answer (new ≡ old ++ (first ++ second))
two_pieces (Ok value) old middle new first second one two = two ∙ (ap (λ bytes. bytes ++ second) one ∙ append_assoc old first second)
two_pieces (Err fault) old middle new first second one two = two
