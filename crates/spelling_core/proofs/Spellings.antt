-- What is spelled, and the words of it.
use Rattle.std.proofs.Common.{◌≡◌, ◌≢◌, ◌⊎◌, inl, inr, ℕ, ◌+◌, ◌-◌, ◌%◌, ◌<◌, ◌≤◌, ◌^◌, nat_le, Bool, true, false, not, ◌&&◌, ◌==◌, List, [], ◌∷◌, ◌++◌, length, take}
use Rattle.std.proofs.Common.{decimal, IsTrue, refl, sym, ap, ◌∙◌, subst, arith}
use Rattle.std.specs.List.{All, AllByRecursion as Each, Contains, list_all}
use Rattle.std.proofs.lemmas.Bool.{agree_below_at, cases_Bool, and_from, and_parts, le-leb, leb-true, lt-leb, not-true, cases_lt, eq-eqb, ne_eqb, cond-true, cond-false}
use Rattle.std.proofs.lemmas.List.{length-append, length-take-le}
use Rattle.std.proofs.lemmas.List.Elements.{All-nil, All-cons, All-append, All-weaker, All-take, All-contains, Contains-append_right, recursion_from_All, All-from_recursion}
use Rattle.std.proofs.lemmas.Fmt.{decimal_by_steps, length-decimal-le, decimal_injective}
use Rattle.percent_encoding.specs.AsciiSet.{should_percent_encode}
use Rattle.percent_encoding.specs.Percent.{percent_encode, percent_decode, percent_encode_byte, IsKept}
use Rattle.percent_encoding.proofs.AsciiSetLemmas.{ascii_from_kept}
use Rattle.percent_encoding.proofs.PercentLemmas.{All-percent_encode, All-percent_encode_byte, IsEscapeByte, percent_encode-nil, percent_encode_escaped, percent_encode_kept, percent_encode_nonempty, percent_encode_unchanged, round_trip}
use Rattle.payload_core.specs.Words.{is_word, is_word_byte, longest_word}
use Rattle.spelling_core.specs.declared.spelling.TheConstants.{SPELLED}
use Rattle.spelling_core.specs.WordText.{escaped, spelled, mark, cut, word_of, IsVisible, AreBytes, WordLaw, StaysLaw, OneValueLaw}

-- the bytes that stay as they are

abbrev stays : ℕ → Bool
stays byte = is_word_byte byte && (not (byte == 37) && not (byte == 126))

abbrev escapes : ℕ → Bool
escapes byte = not (should_percent_encode SPELLED byte)

table : (b : ℕ) → b < 128 → escapes b ≡ stays b
unfolding should_percent_encode
table b low = agree_below_at escapes stays 128 b refl low

-- a byte of what is spelled
abbrev IsPlain : ℕ → Type 0
IsPlain byte = IsTrue (is_word_byte byte) × (byte ≢ 126)

kept_stays : (b : ℕ) → should_percent_encode SPELLED b ≡ false → stays b ≡ true
kept_stays b kept = sym (table b (ascii_from_kept SPELLED b kept)) ∙ ap not kept

plain_kept : (b : ℕ) → should_percent_encode SPELLED b ≡ false → IsPlain b
plain_kept b kept =
    let parts = and_parts (is_word_byte b) (not (b == 37) && not (b == 126)) (kept_stays b kept) in
    let no = and_parts (not (b == 37)) (not (b == 126)) parts.1 in
    (parts.0, λ e. let yes = eq-eqb b 126 e in let h = not-true (b == 126) no.1 in (cc))

plain_escape : (b : ℕ) → IsEscapeByte b → IsPlain b
plain_escape b h = (and_from (nat_le 33 b) (nat_le b 126) (le-leb 33 b (low h)) (le-leb b 126 (high h)), λ e. apart h e)
  where
    low : IsEscapeByte b → 33 ≤ b
    low (inl e) = omega arith
    low (inr (inl h)) = omega arith
    low (inr (inr h)) = omega arith

    high : IsEscapeByte b → b ≤ 126
    high (inl e) = omega arith
    high (inr (inl h)) = omega arith
    high (inr (inr h)) = omega arith

    apart : IsEscapeByte b → b ≢ 126
    apart (inl h) e = omega arith
    apart (inr (inl h)) e = omega arith
    apart (inr (inr h)) e = omega arith

escaped_plain : (bytes : List ℕ) → All IsPlain (escaped bytes)
escaped_plain bytes = All-percent_encode IsPlain SPELLED bytes plain_kept plain_escape

plain_percent : IsPlain 37
plain_percent = (refl, λ e. omega (arith, e))

plain_equals : IsPlain 61
plain_equals = (refl, λ e. omega (arith, e))

spelled_plain : (is_string : Bool) (bytes : List ℕ) → All IsPlain (spelled is_string bytes)
spelled_plain true [] = All-cons IsPlain 37 (escaped []) plain_percent (escaped_plain [])
spelled_plain true (b ∷ bytes) = escaped_plain (b ∷ bytes)
spelled_plain false bytes = All-cons IsPlain 37 (61 ∷ escaped bytes) plain_percent (All-cons IsPlain 61 (escaped bytes) plain_equals (escaped_plain bytes))

spelled_some : (is_string : Bool) (bytes : List ℕ) → 0 < length (spelled is_string bytes)
spelled_some true [] = omega arith
spelled_some true (b ∷ bytes) = percent_encode_nonempty SPELLED (b ∷ bytes) (omega arith)
spelled_some false bytes = omega arith

abbrev IsVisibleByte : ℕ → Type 0
IsVisibleByte byte = IsTrue (is_word_byte byte)

pub visible : (is_string : Bool) (bytes : List ℕ) → IsVisible (spelled is_string bytes)
visible is_string bytes = record {
  some = spelled_some is_string bytes;
  each = All-weaker IsPlain IsVisibleByte (λ b h. h.0) (spelled is_string bytes) (spelled_plain is_string bytes);
}

-- words

list_all_each : (bytes : List ℕ) → Each IsVisibleByte bytes → list_all is_word_byte bytes ≡ true
list_all_each [] all = refl
list_all_each (b ∷ bytes) all = and_from (is_word_byte b) (list_all is_word_byte bytes) all.0 (list_all_each bytes all.1)

pub is_word_of : (bytes : List ℕ) → IsVisible bytes → length bytes ≤ 200 → is_word bytes ≡ true
is_word_of bytes is short =
    and_from (nat_le 1 (length bytes) && nat_le (length bytes) 200) (list_all is_word_byte bytes)
    (and_from (nat_le 1 (length bytes)) (nat_le (length bytes) 200) (le-leb 1 (length bytes) (let h = is.some in omega arith)) (le-leb (length bytes) 200 short))
    (list_all_each bytes (recursion_from_All IsVisibleByte bytes is.each))

digit_visible : (d : ℕ) → d < 10 → IsVisibleByte (48 + d)
digit_visible d low = and_from (nat_le 33 (48 + d)) (nat_le (48 + d) 126) (le-leb 33 (48 + d) (omega arith)) (le-leb (48 + d) 126 (omega arith))

decimal_visible : (n : ℕ) → n < 2 ^ 64 → All IsVisibleByte (decimal n)
decimal_visible n low = decimal_by_steps (λ m ds. All IsVisibleByte ds)
    (λ m h. All-cons IsVisibleByte (48 + m) [] (digit_visible m h) (All-nil IsVisibleByte))
    (λ m ds h all. All-append IsVisibleByte ds ((48 + m % 10) ∷ []) all
    (All-cons IsVisibleByte (48 + m % 10) [] (digit_visible (m % 10) (omega arith)) (All-nil IsVisibleByte))) n low

pub mark_short : (n : ℕ) → n < 2 ^ 64 → length (mark n) ≤ 21
mark_short n low = let h = length-decimal-le 20 n (omega arith) (omega arith) low in omega arith

pub cut_visible : (n : ℕ) (bytes : List ℕ) → n < 2 ^ 64 → IsVisible bytes → IsVisible (cut n bytes)
cut_visible n bytes low is = record {
  some = (let l = length-append (take (200 - length (mark n)) bytes) (mark n) in omega arith);
  each = All-append IsVisibleByte (take (200 - length (mark n)) bytes) (mark n) (All-take IsVisibleByte (200 - length (mark n)) bytes is.each)
      (All-cons IsVisibleByte 126 (decimal n) refl (decimal_visible n low));
}

pub cut_long : (n : ℕ) (bytes : List ℕ) → n < 2 ^ 64 → 200 < length bytes → length (cut n bytes) ≡ 200
cut_long n bytes low long =
    let short = mark_short n low in
    let front : length (take (200 - length (mark n)) bytes) ≡ 200 - length (mark n) = length-take-le (200 - length (mark n)) bytes (omega arith) in
    length-append (take (200 - length (mark n)) bytes) (mark n) ∙ omega arith

pub cut_word : (n : ℕ) (bytes : List ℕ) → n < 2 ^ 64 → IsVisible bytes → 200 < length bytes → is_word (cut n bytes) ≡ true
cut_word n bytes low is long = is_word_of (cut n bytes) (cut_visible n bytes low is) (let h = cut_long n bytes low long in omega arith)

pub whole : (n : ℕ) (bytes : List ℕ) → length bytes ≤ 200 → word_of n bytes ≡ bytes
whole n bytes short = cond-true (nat_le (length bytes) 200) bytes (cut n bytes) (le-leb (length bytes) 200 short)

pub in_part : (n : ℕ) (bytes : List ℕ) → 200 < length bytes → word_of n bytes ≡ cut n bytes
in_part n bytes long = cond-false (nat_le (length bytes) 200) bytes (cut n bytes) (lt-leb (length bytes) 200 long)

pub word_law : WordLaw
word_law = record { visible = visible; word = word }
  where
    word : (n : ℕ) (bytes : List ℕ) → n < 2 ^ 64 → IsVisible bytes → is_word (word_of n bytes) ≡ true
    word n bytes low is = go (cases_lt 200 (length bytes))
      where
        go : (200 < length bytes) ⊎ (length bytes ≤ 200) → is_word (word_of n bytes) ≡ true
        go (inl long) = ap is_word (in_part n bytes long) ∙ cut_word n bytes low is long
        go (inr short) = ap is_word (whole n bytes short) ∙ is_word_of bytes is short

-- what stays

kept_byte : (b : ℕ) → is_word_byte b ≡ true → (b ≢ 37) × (b ≢ 126) → IsKept SPELLED b
kept_byte b is apart =
    let parts = and_parts (nat_le 33 b) (nat_le b 126) is in
    let high = leb-true b 126 parts.1 in
    let no_percent : not (b == 37) ≡ true = ap not (ne_eqb b 37 apart.0) in
    let no_tilde : not (b == 126) ≡ true = ap not (ne_eqb b 126 apart.1) in
    not-true (should_percent_encode SPELLED b) (table b (omega arith) ∙ and_from (is_word_byte b) (not (b == 37) && not (b == 126)) is (and_from (not (b == 37)) (not (b == 126)) no_percent no_tilde))

kept_bytes : (bytes : List ℕ) → list_all is_word_byte bytes ≡ true → Each (λ byte. (byte ≢ 37) × (byte ≢ 126)) bytes → Each (IsKept SPELLED) bytes
kept_bytes [] is apart = tt
kept_bytes (b ∷ bytes) is apart = let parts = and_parts (is_word_byte b) (list_all is_word_byte bytes) is in
    (kept_byte b parts.0 apart.0, kept_bytes bytes parts.1 apart.1)

stays_spelled : (bytes : List ℕ) → is_word bytes ≡ true → All (λ byte. (byte ≢ 37) × (byte ≢ 126)) bytes → spelled true bytes ≡ bytes
stays_spelled [] is apart = absurd (cc)
stays_spelled (b ∷ bytes) is apart =
    let parts = and_parts (nat_le 1 (length (b ∷ bytes)) && nat_le (length (b ∷ bytes)) 200) (list_all is_word_byte (b ∷ bytes)) is in
    percent_encode_unchanged SPELLED (b ∷ bytes) (All-from_recursion (IsKept SPELLED) (b ∷ bytes)
    (kept_bytes (b ∷ bytes) parts.1 (recursion_from_All (λ byte. (byte ≢ 37) × (byte ≢ 126)) (b ∷ bytes) apart)))

pub stays_law : StaysLaw
stays_law n bytes is apart =
    let same = stays_spelled bytes is apart in
    let parts = and_parts (nat_le 1 (length bytes) && nat_le (length bytes) 200) (list_all is_word_byte bytes) is in
    let short = leb-true (length bytes) 200 (and_parts (nat_le 1 (length bytes)) (nat_le (length bytes) 200) parts.0).1 in
    whole n (spelled true bytes) (subst (λ s. length s ≤ 200) (sym same) short) ∙ same

-- one value

decoded : (bytes : List ℕ) → AreBytes bytes → percent_decode (escaped bytes) ≡ bytes
decoded bytes are = round_trip SPELLED bytes refl are

escaped_same : (xs ys : List ℕ) → AreBytes xs → AreBytes ys → escaped xs ≡ escaped ys → xs ≡ ys
escaped_same xs ys are_xs are_ys e = sym (decoded xs are_xs) ∙ ap percent_decode e ∙ decoded ys are_ys

-- what is escaped and begins with a `%` goes on with a digit

no_digit : IsEscapeByte 61 → ⊥
no_digit (inl e) = omega (arith, e)
no_digit (inr (inl h)) = omega (arith, h)
no_digit (inr (inr h)) = omega (arith, h)

escape_unlike : (b : ℕ) (rest more : List ℕ) → percent_encode_byte b ++ rest ≡ 37 ∷ 61 ∷ more → ⊥
unfolding percent_encode_byte
escape_unlike b rest more e =
    let all = All-percent_encode_byte b in
    let second = all 1 0 (omega arith) in
    no_digit (subst IsEscapeByte (cc) second)

escape_long : (b : ℕ) (rest : List ℕ) → percent_encode_byte b ++ rest ≡ 37 ∷ [] → ⊥
unfolding percent_encode_byte
escape_long b rest e = absurd (cc)

kept_apart : (b : ℕ) → should_percent_encode SPELLED b ≡ false → b ≡ 37 → ⊥
kept_apart b kept e =
    let parts = and_parts (is_word_byte b) (not (b == 37) && not (b == 126)) (kept_stays b kept) in
    let no = and_parts (not (b == 37)) (not (b == 126)) parts.1 in
    let yes = eq-eqb b 37 e in let h = not-true (b == 37) no.0 in absurd (cc)

escaped_unlike : (bytes more : List ℕ) → escaped bytes ≡ 37 ∷ 61 ∷ more → ⊥
escaped_unlike [] more e = let h = sym (percent_encode-nil SPELLED) ∙ e in absurd (cc)
escaped_unlike (b ∷ bytes) more e = go (cases_Bool (should_percent_encode SPELLED b))
  where
    go : (should_percent_encode SPELLED b ≡ true) ⊎ (should_percent_encode SPELLED b ≡ false) → ⊥
    go (inl is) = escape_unlike b (percent_encode SPELLED bytes) more (sym (percent_encode_escaped SPELLED b bytes is) ∙ e)
    go (inr is) = kept_apart b is (let h = sym (percent_encode_kept SPELLED b bytes is) ∙ e in cc)

escaped_not_percent : (bytes : List ℕ) → escaped bytes ≡ 37 ∷ [] → ⊥
escaped_not_percent [] e = let h = sym (percent_encode-nil SPELLED) ∙ e in absurd (cc)
escaped_not_percent (b ∷ bytes) e = go (cases_Bool (should_percent_encode SPELLED b))
  where
    go : (should_percent_encode SPELLED b ≡ true) ⊎ (should_percent_encode SPELLED b ≡ false) → ⊥
    go (inl is) = escape_long b (percent_encode SPELLED bytes) (sym (percent_encode_escaped SPELLED b bytes is) ∙ e)
    go (inr is) = kept_apart b is (let h = sym (percent_encode_kept SPELLED b bytes is) ∙ e in cc)

values : (s t : Bool) (xs ys : List ℕ) → AreBytes xs → AreBytes ys → spelled s xs ≡ spelled t ys → (s ≡ t) × (xs ≡ ys)
values true true [] [] are_xs are_ys e = (refl, refl)
values true true [] (y ∷ ys) are_xs are_ys e = absurd (escaped_not_percent (y ∷ ys) (sym e ∙ ap (λ l. 37 ∷ l) (percent_encode-nil SPELLED)))
values true true (x ∷ xs) [] are_xs are_ys e = absurd (escaped_not_percent (x ∷ xs) (e ∙ ap (λ l. 37 ∷ l) (percent_encode-nil SPELLED)))
values true true (x ∷ xs) (y ∷ ys) are_xs are_ys e = (refl, escaped_same (x ∷ xs) (y ∷ ys) are_xs are_ys e)
values true false [] ys are_xs are_ys e = absurd (let h = ap (λ l. 37 ∷ l) (sym (percent_encode-nil SPELLED)) ∙ e in cc)
values true false (x ∷ xs) ys are_xs are_ys e = absurd (escaped_unlike (x ∷ xs) (escaped ys) e)
values false true xs [] are_xs are_ys e = absurd (let h = ap (λ l. 37 ∷ l) (sym (percent_encode-nil SPELLED)) ∙ sym e in cc)
values false true xs (y ∷ ys) are_xs are_ys e = absurd (escaped_unlike (y ∷ ys) (escaped xs) (sym e))
values false false xs ys are_xs are_ys e = (refl, escaped_same xs ys are_xs are_ys (let h : escaped xs ≡ escaped ys = cc in h))

-- words that are cut

abbrev NoTilde : ℕ → Type 0
NoTilde byte = byte ≢ 126

no_tilde : (is_string : Bool) (bytes : List ℕ) → All NoTilde (spelled is_string bytes)
no_tilde is_string bytes = All-weaker IsPlain NoTilde (λ b h. h.1) (spelled is_string bytes) (spelled_plain is_string bytes)

cut_has_tilde : (n : ℕ) (bytes : List ℕ) → Contains (cut n bytes) 126
cut_has_tilde n bytes = Contains-append_right (take (200 - length (mark n)) bytes) (mark n) 126 (0, omega arith, refl)

words : (m n : ℕ) (s t : Bool) (xs ys : List ℕ) → length (spelled s xs) ≤ longest_word →
    word_of m (spelled s xs) ≡ word_of n (spelled t ys) → spelled s xs ≡ spelled t ys
words m n s t xs ys short e = go (cases_lt 200 (length (spelled t ys)))
  where
    here : spelled s xs ≡ word_of n (spelled t ys)
    here = sym (whole m (spelled s xs) short) ∙ e

    go : (200 < length (spelled t ys)) ⊎ (length (spelled t ys) ≤ 200) → spelled s xs ≡ spelled t ys
    go (inr both) = here ∙ whole n (spelled t ys) both
    go (inl long) =
        let same : spelled s xs ≡ cut n (spelled t ys) = here ∙ in_part n (spelled t ys) long in
        absurd (All-contains NoTilde (spelled s xs) 126 (no_tilde s xs) (subst (λ l. Contains l 126) (sym same) (cut_has_tilde n (spelled t ys))) refl)

-- what stands behind the first `~`
behind : (xs us ys vs : List ℕ) → Each NoTilde xs → Each NoTilde us → xs ++ 126 ∷ ys ≡ us ++ 126 ∷ vs → ys ≡ vs
behind [] [] ys vs no_x no_u e = cc
behind [] (u ∷ us) ys vs no_x no_u e = absurd (no_u.0 (let h : u ≡ 126 = cc in h))
behind (x ∷ xs) [] ys vs no_x no_u e = absurd (no_x.0 (let h : x ≡ 126 = cc in h))
behind (x ∷ xs) (u ∷ us) ys vs no_x no_u e = behind xs us ys vs no_x.1 no_u.1 (let h : xs ++ 126 ∷ ys ≡ us ++ 126 ∷ vs = cc in h)

numbers : (m n : ℕ) (s t : Bool) (xs ys : List ℕ) → m < 2 ^ 64 → n < 2 ^ 64 → longest_word < length (spelled s xs) → longest_word < length (spelled t ys) →
    word_of m (spelled s xs) ≡ word_of n (spelled t ys) → m ≡ n
numbers m n s t xs ys low_m low_n long_x long_y e =
    decimal_injective m n low_m low_n (behind (take (200 - length (mark m)) (spelled s xs)) (take (200 - length (mark n)) (spelled t ys)) (decimal m) (decimal n) (plain m s xs) (plain n t ys)
    (sym (in_part m (spelled s xs) long_x) ∙ e ∙ in_part n (spelled t ys) long_y))
  where
    plain : (k : ℕ) (b : Bool) (zs : List ℕ) → Each NoTilde (take (200 - length (mark k)) (spelled b zs))
    plain k b zs = recursion_from_All NoTilde (take (200 - length (mark k)) (spelled b zs)) (All-take NoTilde (200 - length (mark k)) (spelled b zs) (no_tilde b zs))

pub one_value_law : OneValueLaw
one_value_law = record { values = values; words = words; numbers = numbers }
