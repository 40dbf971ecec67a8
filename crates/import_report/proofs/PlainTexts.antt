-- JSON in ASCII has visible bytes and spaces alone.
use Rattle.std.proofs.Common.{◌≡◌, ℕ, zero, suc, ◌+◌, ◌-◌, ◌/◌, ◌%◌, ◌<◌, ◌==◌, ◌||◌, ◌&&◌, nat_le, nat_lt, Bool, true, false, true≢false, not, if◌then◌else◌, List, [], ◌∷◌, ◌++◌, length, take, chars}
use Rattle.std.proofs.Common.{refl, sym, ap, ◌∙◌, arith}
use Rattle.std.specs.List.{flat_map, list_all}
use Rattle.std.proofs.lemmas.Bool.Decides.{nat_tests}
use Rattle.payload_core.specs.Words.{is_word_byte}
use Rattle.grammar_core.specs.Words.{is_text, is_visible}
use Rattle.std.specs.Char.{digit_char}
use Rattle.import_report.specs.Ascii.{ascii_char, ascii_text, escaped_char, escaped_unit, string_char, string_text}

abbrev is_plain : ℕ → Bool
is_plain byte = nat_le 32 byte && nat_le byte 126

both : (a b : Bool) → (a && b) ≡ true → (a ≡ true) × (b ≡ true)
both true b e = (refl, e)
both false b e = absurd (true≢false (sym e))

pub plain_both : (xs ys : List ℕ) → is_text xs ≡ true → is_text ys ≡ true → is_text (xs ++ ys) ≡ true
plain_both [] ys e f = f
plain_both (x ∷ xs) ys e f =
    let h = both (is_plain x) (is_text xs) e in ap (λ b. b && is_text (xs ++ ys)) h.0 ∙ plain_both xs ys h.1 f

pub plain_take : (n : ℕ) (xs : List ℕ) → is_text xs ≡ true → is_text (take n xs) ≡ true
plain_take zero xs e = refl
plain_take (suc n) [] e = refl
plain_take (suc n) (x ∷ xs) e = let h = both (is_plain x) (is_text xs) e in ap (λ b. b && is_text (take n xs)) h.0 ∙ plain_take n xs h.1

-- a word byte is one

word_plain : (byte : ℕ) → is_word_byte byte ≡ true → is_plain byte ≡ true
word_plain byte e = grind (arith, nat_tests)

bytes_plain : (xs : List ℕ) → list_all is_word_byte xs ≡ true → is_text xs ≡ true
bytes_plain [] e = refl
bytes_plain (x ∷ xs) e =
    let h = both (is_word_byte x) (list_all is_word_byte xs) e in ap (λ b. b && is_text xs) (word_plain x h.0) ∙ bytes_plain xs h.1

pub plain_visible : (word : List ℕ) → is_visible word ≡ true → is_text word ≡ true
plain_visible word e = bytes_plain word (both (not (length word == 0)) (list_all is_word_byte word) e).1

-- what is escaped

digit_plain : (value : ℕ) → value < 16 → is_plain (digit_char value) ≡ true
digit_plain value low = grind (arith, nat_tests, low)

plain_digits : (a b c d : ℕ) → is_plain a ≡ true → is_plain b ≡ true → is_plain c ≡ true → is_plain d ≡ true → is_text (92 ∷ 117 ∷ a ∷ b ∷ c ∷ d ∷ []) ≡ true
plain_digits a b c d p q r s = rw (p, q, r, s) refl

plain_unit : (unit : ℕ) → is_text (escaped_unit unit) ≡ true
unfolding escaped_unit
plain_unit unit =
    plain_digits (digit_char (unit / 4096 % 16)) (digit_char (unit / 256 % 16)) (digit_char (unit / 16 % 16)) (digit_char (unit % 16))
    (digit_plain (unit / 4096 % 16) (omega arith)) (digit_plain (unit / 256 % 16) (omega arith)) (digit_plain (unit / 16 % 16) (omega arith))
    (digit_plain (unit % 16) (omega arith))

plain_escaped : (c : ℕ) → is_text (escaped_char c) ≡ true
unfolding escaped_char
plain_escaped c = go (nat_lt c 65536)
  where
    high : ℕ
    high = 55296 + (c - 65536) / 1024

    low : ℕ
    low = 56320 + (c - 65536) % 1024

    go : (b : Bool) → is_text (if b then escaped_unit c else escaped_unit high ++ escaped_unit low) ≡ true
    go true = plain_unit c
    go false = plain_both (escaped_unit high) (escaped_unit low) (plain_unit high) (plain_unit low)

plain_char : (c : ℕ) → is_text (ascii_char c) ≡ true
unfolding ascii_char
plain_char c = go (is_plain c) refl
  where
    go : (b : Bool) → is_plain c ≡ b → is_text (if b then c ∷ [] else escaped_char c) ≡ true
    go true e = rw e refl
    go false e = plain_escaped c

quote_plain : (c : ℕ) → ((c == 34) || (c == 92)) ≡ true → is_text (92 ∷ c ∷ []) ≡ true
quote_plain c e = let h : is_plain c ≡ true = grind (arith, nat_tests) in rw h refl

plain_string_char : (c : ℕ) → is_text (string_char c) ≡ true
unfolding string_char
plain_string_char c = go ((c == 34) || (c == 92)) refl
  where
    go : (b : Bool) → ((c == 34) || (c == 92)) ≡ b → is_text (if b then 92 ∷ c ∷ [] else ascii_char c) ≡ true
    go true e = quote_plain c e
    go false e = plain_char c

plain_each : (f : ℕ → List ℕ) → ((c : ℕ) → is_text (f c) ≡ true) → (cs : List ℕ) → is_text (flat_map f cs) ≡ true
plain_each f each [] = refl
plain_each f each (c ∷ cs) = plain_both (f c) (flat_map f cs) (each c) (plain_each f each cs)

pub plain_ascii : (text : List ℕ) → is_text (ascii_text text) ≡ true
plain_ascii text = plain_each ascii_char plain_char (chars text)

pub plain_string : (text : List ℕ) → is_text (string_text text) ≡ true
plain_string text = plain_each string_char plain_string_char (chars text)
