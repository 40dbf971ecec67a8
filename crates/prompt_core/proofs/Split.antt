-- The lines of an input, one after another.
use Rattle.std.proofs.Common.{◌≡◌, ℕ, ◌==◌, Bool, true, false, List, [], ◌∷◌, refl, sym, subst, ap, ap₂, ◌∙◌}
use Rattle.std.proofs.lemmas.Bool.{eqb-true}
use Rattle.std.specs.List.{onto_first}
use Rattle.std.specs.Io.BufRead.{drop_through, first_piece}
use Rattle.grammar_core.specs.Words.{lines_of}
use Rattle.stream_core.proofs.Pieces.{piece_more, rest_more}

fed_ten : (xs : List ℕ) → lines_of (10 ∷ xs) ≡ first_piece 10 (10 ∷ xs) ∷ lines_of (drop_through 10 (10 ∷ xs))
fed_ten xs = refl

pub fed : (x : ℕ) (xs : List ℕ) → (x == 10) ≡ true → lines_of (x ∷ xs) ≡ first_piece 10 (x ∷ xs) ∷ lines_of (drop_through 10 (x ∷ xs))
fed x xs is = subst (λ b. lines_of (b ∷ xs) ≡ first_piece 10 (b ∷ xs) ∷ lines_of (drop_through 10 (b ∷ xs))) (sym (eqb-true x 10 is)) (fed_ten xs)

line_more : (x : ℕ) (xs : List ℕ) → (x == 10) ≡ false → lines_of (x ∷ xs) ≡ onto_first x (lines_of xs)
line_more x xs is = rw is refl

-- the first line, and the lines after it; behind a last line without a line feed there are none
pub data IsSplit (xs : List ℕ) : Type 0 where
  More : lines_of xs ≡ first_piece 10 xs ∷ lines_of (drop_through 10 xs) → IsSplit xs
  Last : lines_of xs ≡ first_piece 10 xs ∷ [] → drop_through 10 xs ≡ [] → IsSplit xs

pub split : (xs : List ℕ) → IsSplit xs
split [] = Last refl refl
split (x ∷ xs) = go (x == 10) refl (split xs)
  where
    go : (b : Bool) → (x == 10) ≡ b → IsSplit xs → IsSplit (x ∷ xs)
    go true is rest = More (fed x xs is)
    go false is (More e) =
        More (line_more x xs is ∙ ap (onto_first x) e ∙ ap₂ (λ (a b : List ℕ). a ∷ lines_of b) (sym (piece_more x xs is)) (sym (rest_more x xs is)))
    go false is (Last e none) =
        Last (line_more x xs is ∙ ap (onto_first x) e ∙ ap (λ (a : List ℕ). a ∷ []) (sym (piece_more x xs is))) (rest_more x xs is ∙ none)

-- there is one at least
pub some_line : (xs : List ℕ) → (first : List ℕ) × (rest : List (List ℕ)) × (lines_of xs ≡ first ∷ rest)
some_line xs = go (split xs)
  where
    go : IsSplit xs → (first : List ℕ) × (rest : List (List ℕ)) × (lines_of xs ≡ first ∷ rest)
    go (More e) = (first_piece 10 xs, lines_of (drop_through 10 xs), e)
    go (Last e none) = (first_piece 10 xs, [], e)
