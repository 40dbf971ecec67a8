-- Bytes of a script as text, and numbers.
use Rattle.std.proofs.Common.{◌≡◌, ℕ, zero, suc, ◌<◌, ◌^◌, Bool, true, false, nat_lt, List, [], ◌∷◌, length, get_or, nat_le, ◌&&◌, ◌||◌, ◌==◌, slice_index}
use Rattle.std.proofs.Common.{if◌then◌else◌, Result, Ok, Err, refl, sym, arith, rules, OkIff, true≢false, not, cond, filter}
use Rattle.std.specs.Char.{is_ascii_digit}
use Rattle.std.specs.List.{list_all, slice_split, onto_first}
use Rattle.std.specs.Result.{result_ok}
use Rattle.std.specs.Str.{IsUtf8}
use Rattle.std.specs.Str.Parse.{ParsesUnsigned, digits_value}
use Rattle.std.proofs.lemmas.Str.{IsUtf8-from_ascii}
use Rattle.std.proofs.lemmas.Str.Parse.{IsNumeralModel, numerals_by_value, parse_digits}
use Rattle.std.proofs.lemmas.Bool.Decides.{nat_tests}
use Rattle.grammar_core.specs.Words.{is_text, is_numeral, is_visible, number_of, words_of}
use Rattle.payload_core.specs.Words.{is_word_byte}

pub both : (a b : Bool) → (a && b) ≡ true → (a ≡ true) × (b ≡ true)
both true b e = (refl, e)
both false b e = absurd (true≢false (sym e))

-- text is ASCII, so it is UTF-8
IsAscii-is_text : (line : List ℕ) → is_text line ≡ true → (i : ℕ) → get_or line i 0 < 128
IsAscii-is_text [] e i = omega arith
IsAscii-is_text (x ∷ xs) e zero =
    let h = both (nat_le 32 x && nat_le x 126) (is_text xs) e in
    let k = both (nat_le 32 x) (nat_le x 126) h.0 in
    grind (arith, nat_tests)
IsAscii-is_text (x ∷ xs) e (suc i) = IsAscii-is_text xs (both (nat_le 32 x && nat_le x 126) (is_text xs) e).1 i

pub IsUtf8-is_text : (line : List ℕ) → is_text line ≡ true → IsUtf8 line
IsUtf8-is_text line e = IsUtf8-from_ascii line (IsAscii-is_text line e)

-- what `parse` gives of a numeral
own : IsNumeralModel (λ ds. list_all is_ascii_digit ds ≡ true) (digits_value 10)
own = numerals_by_value _ (search rules)

refused : (b c : Bool) → (if b then false else c) ≡ true → (b ≡ false) × (c ≡ true)
refused true c e = absurd (true≢false (sym e))
refused false c e = (refl, e)

pub number-parse : {E : Type 0} (digits : List ℕ) (parsed : Result ℕ E) → ParsesUnsigned 64 10 digits parsed → is_numeral digits ≡ true →
    result_ok parsed ≡ number_of digits
number-parse {E = E} digits parsed h e =
    let padded = (slice_index digits 0 == 48) && nat_lt 1 (length digits) in
    let sized = refused ((length digits == 0) || nat_lt 20 (length digits)) (if padded then false else list_all is_ascii_digit digits) e in
    let unpadded = refused padded (list_all is_ascii_digit digits) sized.1 in
    let some : 0 < length digits = grind (arith, nat_tests, sized.0) in
    by some parsed (parse_digits own 64 digits parsed h unpadded.1)
  where
    by : 0 < length digits → (r : Result ℕ E) → OkIff r ((0 < length digits) × (digits_value 10 digits < 2 ^ 64)) (digits_value 10 digits) →
        result_ok r ≡ number_of digits
    by some (Ok n) (fits, same) = rw (e, same) (grind (arith, nat_tests))
    by some (Err d) unfit = rw e (grind (arith, nat_tests))

-- the pieces between the spaces of a text have no space
pieces_of_text : (line : List ℕ) → is_text line ≡ true →
    list_all (λ piece. list_all is_word_byte piece) (slice_split (λ byte. byte == 32) line) ≡ true
pieces_of_text [] e = refl
pieces_of_text (x ∷ xs) e =
    let h = both (nat_le 32 x && nat_le x 126) (is_text xs) e in
    by (x == 32) refl (slice_split (λ byte. byte == 32) xs) (pieces_of_text xs h.1) h.0
  where
    word_byte : (x == 32) ≡ false → (nat_le 32 x && nat_le x 126) ≡ true → is_word_byte x ≡ true
    word_byte other text = grind (arith, nat_tests)

    by : (b : Bool) → (x == 32) ≡ b → (rest : List (List ℕ)) → list_all (λ piece. list_all is_word_byte piece) rest ≡ true →
        (nat_le 32 x && nat_le x 126) ≡ true
        → list_all (λ piece. list_all is_word_byte piece) (cond b ([] ∷ rest) (onto_first x rest)) ≡ true
    by true space rest ok text = ok
    by false other [] ok text = rw (word_byte other text) refl
    by false other (piece ∷ pieces) ok text = rw (word_byte other text) ok

filtered : (pieces : List (List ℕ)) → list_all (λ piece. list_all is_word_byte piece) pieces ≡ true →
    list_all is_visible (filter (λ word. not (length word == 0)) pieces) ≡ true
filtered [] e = refl
filtered (piece ∷ pieces) e =
    by (not (length piece == 0)) refl (both (list_all is_word_byte piece) (list_all (λ p. list_all is_word_byte p) pieces) e)
    (filtered pieces)
  where
    by : (b : Bool) → not (length piece == 0) ≡ b →
        (list_all is_word_byte piece ≡ true) × (list_all (λ p. list_all is_word_byte p) pieces ≡ true)
        → (list_all (λ p. list_all is_word_byte p) pieces ≡ true →
        list_all is_visible (filter (λ word. not (length word == 0)) pieces) ≡ true)
        → list_all is_visible (cond b (piece ∷ filter (λ word. not (length word == 0)) pieces)
        (filter (λ word. not (length word == 0)) pieces)) ≡ true
    by true some ok rest = rw (some, ok.0, rest ok.1) refl
    by false none ok rest = rest ok.1

-- so the words of a text are words
pub words_of_text : (line : List ℕ) → is_text line ≡ true → list_all is_visible (words_of line) ≡ true
words_of_text line e = filtered (slice_split (λ byte. byte == 32) line) (pieces_of_text line e)
