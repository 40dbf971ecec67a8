-- The words of a line, one by one.
use Rattle.std.proofs.Common.{◌≡◌, ℕ, zero, suc, ◌+◌, Bool, true, false, nat_le, nat_lt, List, [], ◌∷◌, ◌++◌, length, get_or, take, drop, ◌&&◌, ◌==◌, if◌then◌else◌}
use Rattle.std.proofs.Common.{Result, Ok, Err, refl, sym, ap, ◌∙◌, arith, true≢false, not, cond, filter, append_assoc, append-nil, subst, ◌≤◌, unwrap_or}
use Rattle.std.specs.List.{All, list_all, position, prefix_len, slice_split}
use Rattle.std.specs.Str.{IsUtf8}
use Rattle.std.proofs.lemmas.Bool.Decides.{nat_tests}
use Rattle.std.proofs.lemmas.List.Splits.{slice_split_none, slice_split_at}
use Rattle.std.proofs.lemmas.List.Sums.{prefix_len-le-length}
use Rattle.payload_core.specs.Words.{is_word_byte}
use Rattle.bench_core.specs.NameList.{Texts}
use Rattle.grammar_core.specs.declared.fault.FaultKind.{FaultKind}
use Rattle.grammar_core.specs.declared.fault.FaultKind.TheVariants.{NotText}
use Rattle.grammar_core.specs.Words.{begins_word, is_text, is_visible, words_of}
use Rattle.grammar_core.specs.Grammar.{text_words}
use Rattle.grammar_core.proofs.LineText.{both, IsUtf8-is_text, words_of_text}

-- these words, and then those of the rest of a line, where it is text
abbrev pub words_then : Texts → List ℕ → Result Texts FaultKind
words_then words rest = if not (is_text rest) then Err NotText else Ok (words ++ words_of rest)

-- the bytes at the front

twice : (bytes : List ℕ) → prefix_len (λ byte. not (not (is_word_byte byte))) bytes ≡ prefix_len is_word_byte bytes
twice [] = refl
twice (x ∷ xs) = by (is_word_byte x) (twice xs)
  where
    by : (b : Bool) → prefix_len (λ byte. not (not (is_word_byte byte))) xs ≡ prefix_len is_word_byte xs
        → cond (not (not b)) (1 + prefix_len (λ byte. not (not (is_word_byte byte))) xs) 0 ≡ cond b (1 + prefix_len is_word_byte xs) 0
    by true same = ap (λ n. 1 + n) same
    by false same = refl

pub position-prefix_len : (bytes : List ℕ) → unwrap_or (position (λ byte. not (is_word_byte byte)) bytes) (length bytes) ≡ prefix_len is_word_byte bytes
position-prefix_len bytes = by (nat_lt (prefix_len is_word_byte bytes) (length bytes)) refl (twice bytes) (prefix_len-le-length is_word_byte bytes)
  where
    by : (b : Bool) → nat_lt (prefix_len is_word_byte bytes) (length bytes) ≡ b
        → prefix_len (λ byte. not (not (is_word_byte byte))) bytes ≡ prefix_len is_word_byte bytes
        → prefix_len is_word_byte bytes ≤ length bytes
        → unwrap_or (position (λ byte. not (is_word_byte byte)) bytes) (length bytes) ≡ prefix_len is_word_byte bytes
    by true is same few = rw (same, is) refl
    by false is same few =
        let all : length bytes ≡ prefix_len is_word_byte bytes = grind (arith, nat_tests) in
        rw (same, is) all

pub front_visible : (bytes : List ℕ) → list_all is_word_byte (take (prefix_len is_word_byte bytes) bytes) ≡ true
front_visible [] = refl
front_visible (x ∷ xs) = by (is_word_byte x) refl (front_visible xs)
  where
    by : (b : Bool) → is_word_byte x ≡ b → list_all is_word_byte (take (prefix_len is_word_byte xs) xs) ≡ true
        → list_all is_word_byte (take (cond b (1 + prefix_len is_word_byte xs) 0) (x ∷ xs)) ≡ true
    by true is more =
        let one : 1 + prefix_len is_word_byte xs ≡ suc (prefix_len is_word_byte xs) = omega arith in
        rw (one, is) more
    by false is more = refl

pub behind_begins_none : (bytes : List ℕ) → begins_word (drop (prefix_len is_word_byte bytes) bytes) ≡ false
behind_begins_none [] = refl
behind_begins_none (x ∷ xs) = by (is_word_byte x) refl (behind_begins_none xs)
  where
    by : (b : Bool) → is_word_byte x ≡ b → begins_word (drop (prefix_len is_word_byte xs) xs) ≡ false
        → begins_word (drop (cond b (1 + prefix_len is_word_byte xs) 0) (x ∷ xs)) ≡ false
    by true is more =
        let one : 1 + prefix_len is_word_byte xs ≡ suc (prefix_len is_word_byte xs) = omega arith in
        rw one more
    by false is more = is

text_word : (word rest : List ℕ) → list_all is_word_byte word ≡ true → is_text (word ++ rest) ≡ is_text rest
text_word [] rest visible = refl
text_word (x ∷ word) rest visible =
    let h = both (is_word_byte x) (list_all is_word_byte word) visible in
    let first = h.0 in
    let wide : (nat_le 32 x && nat_le x 126) ≡ true = grind (arith, nat_tests) in
    rw (wide, text_word word rest h.1) refl

pub IsUtf8-word : (word : List ℕ) → list_all is_word_byte word ≡ true → IsUtf8 word
IsUtf8-word word visible =
    let alone : is_text (word ++ []) ≡ true = text_word word [] visible in
    let text : is_text word ≡ true = rw append-nil at alone in
    IsUtf8-is_text word text

-- the first word

no_space : (word : List ℕ) → list_all is_word_byte word ≡ true → All (λ byte. (byte == 32) ≡ false) word
no_space [] e k d within = absurd (omega arith)
no_space (x ∷ xs) e zero d within = let h = (both (is_word_byte x) (list_all is_word_byte xs) e).0 in grind (arith, nat_tests)
no_space (x ∷ xs) e (suc k) d within = no_space xs (both (is_word_byte x) (list_all is_word_byte xs) e).1 k d (omega arith)

abbrev some_words : Texts → Texts
some_words pieces = filter (λ word. not (length word == 0)) pieces

some_words-cons : (first : ℕ) (word : List ℕ) (pieces : Texts) → some_words ((first ∷ word) ∷ pieces) ≡ (first ∷ word) ∷ some_words pieces
some_words-cons first word pieces =
    let some : (length (first ∷ word) == 0) ≡ false = grind (arith, nat_tests) in
    rw some refl

words_of-word : (first : ℕ) (word rest : List ℕ) → list_all is_word_byte (first ∷ word) ≡ true → begins_word rest ≡ false → is_text rest ≡ true
    → words_of ((first ∷ word) ++ rest) ≡ (first ∷ word) ∷ words_of rest
words_of-word first word [] visible behind text =
    let one = slice_split_none (λ byte. byte == 32) (first ∷ word) (no_space (first ∷ word) visible) in
    ap words_of (append-nil (first ∷ word)) ∙ ap some_words one ∙ some_words-cons first word []
words_of-word first word (x ∷ rest) visible behind text =
    let h = (both (nat_le 32 x && nat_le x 126) (is_text rest) text).0 in
    let space : 32 ≡ x = grind (arith, nat_tests) in
    subst (λ byte. words_of ((first ∷ word) ++ byte ∷ rest) ≡ (first ∷ word) ∷ words_of (byte ∷ rest)) space
    (ap some_words (slice_split_at (λ byte. byte == 32) (first ∷ word) 32 rest (no_space (first ∷ word) visible) refl)
    ∙ some_words-cons first word (slice_split (λ byte. byte == 32) rest))

next_word : (words : Texts) (first : ℕ) (word rest : List ℕ) → list_all is_word_byte (first ∷ word) ≡ true → begins_word rest ≡ false
    → words_then (words ++ (first ∷ word) ∷ []) rest ≡ words_then words ((first ∷ word) ++ rest)
next_word words first word rest visible behind = by (is_text rest) refl
  where
    by : (b : Bool) → is_text rest ≡ b → words_then (words ++ (first ∷ word) ∷ []) rest ≡ words_then words ((first ∷ word) ++ rest)
    by true text = rw (text_word (first ∷ word) rest visible, text, words_of-word first word rest visible behind text, append_assoc) refl
    by false other = rw (text_word (first ∷ word) rest visible, other) refl

-- a word that isn't empty
pub words_then-word : (words : Texts) (rest word behind : List ℕ) → rest ≡ word ++ behind → (length word == 0) ≡ false
    → list_all is_word_byte word ≡ true → begins_word behind ≡ false → words_then (words ++ word ∷ []) behind ≡ words_then words rest
words_then-word words rest [] behind whole some visible longest = absurd (true≢false some)
words_then-word words rest (first ∷ word) behind whole some visible longest =
    next_word words first word behind visible longest ∙ ap (words_then words) (sym whole)

-- a byte of no text
pub words_then-none : (words : Texts) (rest word behind : List ℕ) → 1 ≤ length rest → (get_or rest 0 0 ≡ 32 → ⊥) → rest ≡ word ++ behind
    → (length word == 0) ≡ true → begins_word behind ≡ false → words_then words rest ≡ Err NotText
words_then-none words [] word behind some other whole empty longest = absurd (omega arith)
words_then-none words (first ∷ after) [] behind some other whole empty longest =
    let outside : is_word_byte first ≡ false = ap begins_word whole ∙ longest in
    let wide : (nat_le 32 first && nat_le first 126) ≡ false = grind (arith, nat_tests) in
    rw wide refl
words_then-none words (first ∷ after) (x ∷ word) behind some other whole empty longest =
    let filled : (length (x ∷ word) == 0) ≡ false = grind (arith, nat_tests) in
    absurd (true≢false (sym empty ∙ filled))

pub words_visible : (line : List ℕ) (words : Texts) → text_words line ≡ Ok words → list_all is_visible words ≡ true
words_visible line words read = by (is_text line) refl read
  where
    by : (b : Bool) → is_text line ≡ b → (if not b then Err NotText else Ok (words_of line)) ≡ Ok words → list_all is_visible words ≡ true
    by true text read =
        let same : words_of line ≡ words = cc in
        subst (λ words. list_all is_visible words ≡ true) same (words_of_text line text)
    by false other read = absurd (cc)
